use Rattle.std.proofs.Common.{map, ◌≡◌, ◌∙◌, ◌+◌, ◌++◌, ◌∷◌, [], ℕ, Some, ap, sym, refl, arith}
use Rattle.std.specs.List.{range_with_len}
use Rattle.duties.proofs.Orders.{each_hands_on, each_more, each_none, each_fails}
use Rattle.laws.proofs.Ranges.{map-more}
use Rattle.ledger_file.specs.declared.faults.LedgerFault.TheVariants.{Memory, Number}
use Rattle.ledger_file.specs.Forms.{line_numbers}
use Rattle.ledger_file.specs.LedgerFiles.{interval_duty, ends_in}
use Rattle.ledger_file.proofs.Reading.{interval_at, ends_at, line_passes, line_fails}
use Rattle.ledger_file.proofs.lists.read_opened.Goals as goal

pub returns-in_default-clause-answer : goal.returns-in_default-clause-answer
unfolding line_numbers
returns-in_default-clause-answer c = λ ne.
    let text = c.args.source.now.text in
    let n = c.args.count in
    let line : 4 + n + 1 ≡ c.args.opening.number = omega (arith, c.requires.number) in
    let fails = line_fails text (4 + n) _ c.requires.there (sym (rw c.requires.text at c.in_default.ensures.exactly)) in
    each_fails (interval_duty text n) n 0 _ (omega (arith, c.requires.some)) (each_none _) (interval_at text n 0 (4 + n) (omega arith) ∙ fails ∙ ap (λ (k : ℕ). Some (Number k)) line)

pub loop-patch-init : goal.loop-patch-init
unfolding line_numbers
loop-patch-init c =
    let text = c.args.source.now.text in
    let n = c.args.count in
    let here : ends_in text n 0 ≡ c.in-Some.ends = ends_at text n 0 (4 + n) (omega arith) ∙ sym (rw c.requires.text at c.in-Some.ensures.ends) in
    record {
      some = omega arith;
      text = refl;
      read = omega (arith, c.requires.place);
      ends = rw here (c.in_ok-push.ensures.items ∙ ap (λ es. es ++ c.in-Some.ends ∷ []) c.in_ok-intervals.ensures.items);
      met = each_more (interval_duty text n) 0 (each_none _) ∙ (interval_at text n 0 (4 + n) (omega arith) ∙ line_passes text (4 + n) _ c.requires.there (sym (rw c.requires.text at c.in-Some.ensures.exactly)));
    }

pub returns-in_err-read_ends-clause-answer : goal.returns-in_err-read_ends-clause-answer
returns-in_err-read_ends-clause-answer c =
    let i = c.loop-patch.invariant in
    each_hands_on Memory _ _ (interval_duty c.args.source.now.text c.args.count) c.args.count c.loop-patch.patch c.loop-patch-test.true
    i.met c.from_residual-in_err-read_ends.ensures.1 (rw (i.text, i.read) at c.in_err-read_ends.ensures.answer)

pub loop-patch-preserved : goal.loop-patch-preserved
loop-patch-preserved c =
    let i = c.loop-patch.invariant in
    let text = c.args.source.now.text in
    let n = c.args.count in
    let j = c.loop-patch.patch in
    let here = c.in_ok-read_ends.ensures in
    record {
      some = omega arith;
      text = here.same ∙ i.text;
      read = omega (arith, here.next, i.read);
      ends = c.in_ok-push-2.ensures.items ∙ (ap (λ es. es ++ c.in_ok-read_ends.field-0 ∷ []) i.ends ∙ (ap (λ e. map (ends_in text n) (range_with_len 0 j) ++ e ∷ []) (rw (i.text, i.read) at here.ends) ∙ sym (map-more (ends_in text n) j)));
      met = each_more (interval_duty text n) j i.met ∙ (rw (i.text, i.read) at here.answer);
    }
