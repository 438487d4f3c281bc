use Rattle.std.proofs.Common.{ℕ, List, [], ◌∷◌, ap, is_some, sym, drop, ◌∙◌}
use Rattle.ledger_file.specs.Forms.{interval_form}
use Rattle.ledger_file.proofs.forms.interval_line.Goals as goal

pub returns-in_err-patch-clause-exactly : goal.returns-in_err-patch-clause-exactly
returns-in_err-patch-clause-exactly c = ap is_some c.from_residual.ensures ∙ sym (rw c.new-words.ensures at c.in_err-patch.ensures (drop 2 interval_form))

pub returns-in_err-low-clause-exactly : goal.returns-in_err-low-clause-exactly
returns-in_err-low-clause-exactly c =
    ap is_some c.from_residual-in_err-low.ensures
    ∙ sym ((rw c.new-words.ensures at (c.in_ok-patch.ensures (drop 2 interval_form)).0) ∙ c.in_err-low.ensures (drop 3 interval_form))

pub returns-in_err-high-clause-exactly : goal.returns-in_err-high-clause-exactly
returns-in_err-high-clause-exactly c =
    ap is_some c.from_residual-in_err-high.ensures
    ∙ sym ((rw c.new-words.ensures at (c.in_ok-patch.ensures (drop 2 interval_form)).0) ∙ ((c.in_ok-low.ensures (drop 3 interval_form)).0 ∙ c.in_err-high.ensures []))

pub returns-in_err-end-clause-exactly : goal.returns-in_err-end-clause-exactly
returns-in_err-end-clause-exactly c =
    ap is_some c.from_residual-in_err-end.ensures
    ∙ sym ((rw c.new-words.ensures at (c.in_ok-patch.ensures (drop 2 interval_form)).0)
    ∙ ((c.in_ok-low.ensures (drop 3 interval_form)).0 ∙ ((c.in_ok-high.ensures []).0 ∙ sym c.in_err-end.ensures)))

pub returns-clause-exactly : goal.returns-clause-exactly
returns-clause-exactly c =
    sym ((rw c.new-words.ensures at (c.in_ok-patch.ensures (drop 2 interval_form)).0)
    ∙ ((c.in_ok-low.ensures (drop 3 interval_form)).0 ∙ ((c.in_ok-high.ensures []).0 ∙ sym c.in_ok-end.ensures)))

pub returns-clause-numbers : goal.returns-clause-numbers
returns-clause-numbers c =
    (rw c.new-words.ensures at (c.in_ok-patch.ensures (drop 2 interval_form)).1)
    ∙ ap (λ (ns : List ℕ). c.in_ok-patch.patch ∷ ns) ((c.in_ok-low.ensures (drop 3 interval_form)).1
    ∙ ap (λ (ns : List ℕ). c.in_ok-low.low ∷ ns) (c.in_ok-high.ensures []).1)
