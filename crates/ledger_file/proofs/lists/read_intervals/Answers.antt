use Rattle.std.proofs.Common.{ℕ, ◌≡◌, ◌∙◌, ◌+◌, true, false, Some, ap, sym, refl, arith}
use Rattle.std.proofs.lemmas.Grind.{common_steps}
use Rattle.duties.proofs.Orders.{hands_on}
use Rattle.ledger_file.specs.declared.faults.LedgerFault.TheVariants.{Memory, Trailing}
use Rattle.ledger_file.proofs.Endings.{compared, no_intervals, closed_here, closed_but, some_intervals, open_fails, open_ends, open_but}
use Rattle.ledger_file.proofs.lists.read_intervals.Goals as goal

pub returns-in_default-clause-answer : goal.returns-in_default-clause-answer
returns-in_default-clause-answer c =
    let last = rw c.requires.place at c.in_default.ensures.there in
    closed_here c.args.source.now.text c.args.count (rw (← last) refl) (sym last)

pub returns-in_default-clause-intervals : goal.returns-in_default-clause-intervals
returns-in_default-clause-intervals c =
    let last = rw c.requires.place at c.in_default.ensures.there in
    sym (no_intervals c.args.source.now.text c.args.count (rw (← last) refl))

pub returns-then-not-opens_intervals-clause-answer : goal.returns-then-not-opens_intervals-clause-answer
returns-then-not-opens_intervals-clause-answer c = λ ne.
    let a = c.in-Some.ensures in
    let line : 4 + c.args.count + 1 ≡ c.in-Some.line.number = omega (arith, c.in-Some.ensures.number, c.requires.place) in
    let isnt : c.opens_intervals.result ≡ false = grind (arith, common_steps) in
    let closed = compared c.args.source.now.text c.args.count _ _ _ c.requires.place a.there a.text c.opens_intervals.ensures ∙ isnt in
    closed_but c.args.source.now.text c.args.count closed (sym (rw c.requires.place at a.there)) ∙ ap (λ (k : ℕ). Some (Trailing k)) line

pub returns-in_err-intervals-clause-answer : goal.returns-in_err-intervals-clause-answer
returns-in_err-intervals-clause-answer c =
    let text = c.args.source.now.text in
    let n = c.args.count in
    let a = c.in-Some.ensures in
    let is : c.opens_intervals.result ≡ true = grind (arith, common_steps) in
    let opened = compared text n _ _ _ c.requires.place a.there a.text c.opens_intervals.ensures ∙ is in
    hands_on Memory _ _ _ _ c.from_residual.ensures.1 (rw a.same at c.in_err-intervals.ensures.answer) (λ h. open_fails text n opened _ h)

pub returns-in-None-clause-answer : goal.returns-in-None-clause-answer
returns-in-None-clause-answer c =
    let text = c.args.source.now.text in
    let n = c.args.count in
    let a = c.in-Some.ensures in
    let b = c.in_ok-intervals.ensures in
    let is : c.opens_intervals.result ≡ true = grind (arith, common_steps) in
    let opened = compared text n _ _ _ c.requires.place a.there a.text c.opens_intervals.ensures ∙ is in
    open_ends text n opened (rw a.same at b.answer) (sym (rw (b.same ∙ a.same, b.next) at c.in-None.ensures.there))

pub returns-in-None-clause-intervals : goal.returns-in-None-clause-intervals
returns-in-None-clause-intervals c =
    let text = c.args.source.now.text in
    let n = c.args.count in
    let a = c.in-Some.ensures in
    let is : c.opens_intervals.result ≡ true = grind (arith, common_steps) in
    let opened = compared text n _ _ _ c.requires.place a.there a.text c.opens_intervals.ensures ∙ is in
    ap Some (rw a.same at c.in_ok-intervals.ensures.ends) ∙ sym (some_intervals text n opened)

pub returns-in-Some-next-clause-answer : goal.returns-in-Some-next-clause-answer
returns-in-Some-next-clause-answer c = λ ne.
    let text = c.args.source.now.text in
    let n = c.args.count in
    let a = c.in-Some.ensures in
    let b = c.in_ok-intervals.ensures in
    let is : c.opens_intervals.result ≡ true = grind (arith, common_steps) in
    let opened = compared text n _ _ _ c.requires.place a.there a.text c.opens_intervals.ensures ∙ is in
    let line : 4 + n + n + 1 ≡ c.in-Some-next.line.number = omega (arith, c.in-Some-next.ensures.number, b.next) in
    open_but text n opened (rw a.same at b.answer) (sym (rw (b.same ∙ a.same, b.next) at c.in-Some-next.ensures.there)) ∙ ap (λ (k : ℕ). Some (Trailing k)) line
