use Rattle.std.proofs.Common.{◌≡◌, ◌∙◌, ◌+◌, ℕ, zero-add, ap}
use Rattle.duties.specs.Duties.{first}
use Rattle.duties.proofs.Orders.{hands_on, last_decides, this_met, this_fails}
use Rattle.lux_lines.specs.Walks.{all_tokens}
use Rattle.lm63_reader.specs.declared.faults.LmFault.TheVariants.{Memory}
use Rattle.lm63_reader.specs.Layouts.{head_layout}
use Rattle.lm63_reader.specs.Lm63.{layout, head_place, token_duties, list_duties}
use Rattle.lm63_reader.proofs.Whole.{layout_is}
use Rattle.lm63_reader.proofs.reader.read_numbers.Goals as goal

pub returns-in_err-skip_tilt-clause-answer : goal.returns-in_err-skip_tilt-clause-answer
unfolding token_duties
returns-in_err-skip_tilt-clause-answer c = hands_on Memory _ _ _ _ c.from_residual.ensures.1 (rw c.requires at c.in_err-skip_tilt.ensures.answer) (λ h. this_fails _ _ _ h)

pub returns-in_err-head-clause-answer : goal.returns-in_err-head-clause-answer
unfolding token_duties
returns-in_err-head-clause-answer c =
    let a = c.in_ok-skip_tilt.ensures in
    let place : c.skip_tilt.new.source.read ≡ head_place c.args.included (all_tokens c.args.source) = (rw c.requires at a.next) ∙ zero-add (head_place c.args.included (all_tokens c.args.source)) in
    hands_on Memory _ _ _ _ c.from_residual-in_err-head.ensures.1 (rw (a.same, place) at c.in_err-head.ensures.answer)
    (λ h. this_met _ _ (rw c.requires at a.answer) ∙ this_fails _ _ _ h)

pub returns-clause-answer : goal.returns-clause-answer
unfolding token_duties
returns-clause-answer c =
    let a = c.in_ok-skip_tilt.ensures in
    let b = c.in_ok-head.ensures in
    let place : c.skip_tilt.new.source.read ≡ head_place c.args.included (all_tokens c.args.source) = (rw c.requires at a.next) ∙ zero-add (head_place c.args.included (all_tokens c.args.source)) in
    let is : head_layout c.read_head.new.source.read c.in_ok-head.head ≡ layout (all_tokens c.args.source) (head_place c.args.included (all_tokens c.args.source)) =
    layout_is (all_tokens c.args.source) (head_place c.args.included (all_tokens c.args.source)) (head_layout c.read_head.new.source.read c.in_ok-head.head)
    (b.next ∙ ap (λ (n : ℕ). n + 13) place) (rw (a.same, place) at b.verticals) (rw (a.same, place) at b.horizontals) (rw (a.same, place) at b.factor) in
    let decides = this_met _ _ (rw c.requires at a.answer) ∙ (this_met _ _ (rw (a.same, place) at b.answer)
    ∙ last_decides (first (list_duties (all_tokens c.args.source) (layout (all_tokens c.args.source) (head_place c.args.included (all_tokens c.args.source)))))) in
    rw decides (rw (b.same ∙ a.same, is) at c.read_lists.ensures.answer)

pub returns-clause-value : goal.returns-clause-value
returns-clause-value c =
    let a = c.in_ok-skip_tilt.ensures in
    let b = c.in_ok-head.ensures in
    let place : c.skip_tilt.new.source.read ≡ head_place c.args.included (all_tokens c.args.source) = (rw c.requires at a.next) ∙ zero-add (head_place c.args.included (all_tokens c.args.source)) in
    let is : head_layout c.read_head.new.source.read c.in_ok-head.head ≡ layout (all_tokens c.args.source) (head_place c.args.included (all_tokens c.args.source)) =
    layout_is (all_tokens c.args.source) (head_place c.args.included (all_tokens c.args.source)) (head_layout c.read_head.new.source.read c.in_ok-head.head)
    (b.next ∙ ap (λ (n : ℕ). n + 13) place) (rw (a.same, place) at b.verticals) (rw (a.same, place) at b.horizontals) (rw (a.same, place) at b.factor) in
    rw (b.same ∙ a.same, is) at c.read_lists.ensures.value
