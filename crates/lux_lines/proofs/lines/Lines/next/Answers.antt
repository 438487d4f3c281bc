use Rattle.std.proofs.Common.{◌≡◌, ◌+◌, length, drop, sym, ◌∙◌, ap, refl, arith}
use Rattle.std.specs.List.{before_first}
use Rattle.std.proofs.lemmas.Bool.Decides.{nat_tests}
use Rattle.lux_lines.specs.Places.{is_newline}
use Rattle.lux_lines.specs.Lines.{without_return, line_at}
use Rattle.lux_lines.specs.Pieces.{line_piece}
use Rattle.lux_lines.proofs.Steps.{step_inside, step_last, no_line, line_text_at, line_text_none, line_there}
use Rattle.lux_lines.proofs.lines.Lines.next.Goals as goal
use Rattle.lux_lines.proofs.lines.Lines.next.Goals.{then-content-self, else-content-self}

pub returns-then-self-clause-line : goal.returns-then-self-clause-line
returns-then-self-clause-line c =
    let s = c.self.inside in
    rw (← c.self.view_is) (sym (no_line s.text.now s.at s.read c.self.invariant c.if-self.true).0)

pub returns-then-self-clause-there : goal.returns-then-self-clause-there
returns-then-self-clause-there c =
    let s = c.self.inside in
    let none = no_line s.text.now s.at s.read c.self.invariant c.if-self.true in
    rw (← c.self.view_is) (grind (arith, nat_tests))

pub returns-then-self-clause-text : goal.returns-then-self-clause-text
returns-then-self-clause-text c =
    let s = c.self.inside in
    rw (← c.self.view_is) (line_text_none s.text.now s.read (no_line s.text.now s.at s.read c.self.invariant c.if-self.true).0)

pub invariant_of-self : goal.invariant_of-self
invariant_of-self c =
    let s = c.self.inside in
    let n = c.front-content.ensures.len in
    elim c.if-content-self.branch [
      | then-content-self w ↦ rw w.self-inside-is (step_inside s.text.now s.at (length c.front-content.result.now) s.read c.self.invariant n (omega arith)).after
      | else-content-self w ↦ rw w.self-inside-is (step_last s.text.now s.at (length c.front-content.result.now) s.read c.self.invariant c.if-self.false n (omega arith)).after
    ]

pub returns-clause-line : goal.returns-clause-line
unfolding line_at
returns-clause-line c =
    let s = c.self.inside in
    let there = line_there s.text.now s.at s.read c.self.invariant c.if-self.false in
    let text : c.without_return.result.now ≡ without_return (before_first is_newline (drop s.at s.text.now)) = c.without_return.ensures.value ∙ ap without_return c.front-content.ensures.value in
    let here : line_at s.text.now s.at ≡ line_piece record { number = s.read + 1; start = s.at; text = c.without_return.result } = (λ k. record { number = sym (c.self.invariant.counted c.if-self.false) k; start = s.at; text = sym text k }) in
    rw (← c.self.view_is, there.0, here) refl

pub returns-clause-there : goal.returns-clause-there
returns-clause-there c =
    let s = c.self.inside in
    let there = line_there s.text.now s.at s.read c.self.invariant c.if-self.false in
    rw (← c.self.view_is) (grind (arith, nat_tests))

pub returns-clause-text : goal.returns-clause-text
unfolding line_at
returns-clause-text c =
    let s = c.self.inside in
    let there = line_there s.text.now s.at s.read c.self.invariant c.if-self.false in
    rw (← c.self.view_is, line_text_at s.text.now s.read _ there.0) (c.without_return.ensures.value ∙ ap without_return c.front-content.ensures.value)
