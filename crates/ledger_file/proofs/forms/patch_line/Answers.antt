use Rattle.std.proofs.Common.{ℕ, List, [], ◌∷◌, ap, is_some, sym, drop, ◌∙◌}
use Rattle.ledger_file.specs.Forms.{patch_form}
use Rattle.ledger_file.proofs.forms.patch_line.Goals as goal

pub returns-in_err-patch-clause-exactly : goal.returns-in_err-patch-clause-exactly
returns-in_err-patch-clause-exactly c = ap is_some c.from_residual.ensures ∙ sym (rw c.new-words.ensures at c.in_err-patch.ensures (drop 2 patch_form))

pub returns-in_err-direct-clause-exactly : goal.returns-in_err-direct-clause-exactly
returns-in_err-direct-clause-exactly c =
    ap is_some c.from_residual-in_err-direct.ensures
    ∙ sym ((rw c.new-words.ensures at (c.in_ok-patch.ensures (drop 2 patch_form)).0) ∙ c.in_err-direct.ensures (drop 4 patch_form))

pub returns-in_err-taken-clause-exactly : goal.returns-in_err-taken-clause-exactly
returns-in_err-taken-clause-exactly c =
    ap is_some c.from_residual-in_err-taken.ensures
    ∙ sym ((rw c.new-words.ensures at (c.in_ok-patch.ensures (drop 2 patch_form)).0) ∙ ((c.in_ok-direct.ensures (drop 4 patch_form)).0 ∙ c.in_err-taken.ensures (drop 6 patch_form)))

pub returns-in_err-residual-clause-exactly : goal.returns-in_err-residual-clause-exactly
returns-in_err-residual-clause-exactly c =
    ap is_some c.from_residual-in_err-residual.ensures
    ∙ sym ((rw c.new-words.ensures at (c.in_ok-patch.ensures (drop 2 patch_form)).0)
    ∙ ((c.in_ok-direct.ensures (drop 4 patch_form)).0 ∙ ((c.in_ok-taken.ensures (drop 6 patch_form)).0 ∙ c.in_err-residual.ensures (drop 8 patch_form))))

pub returns-in_err-err-clause-exactly : goal.returns-in_err-err-clause-exactly
returns-in_err-err-clause-exactly c =
    ap is_some c.from_residual-in_err-err.ensures
    ∙ sym ((rw c.new-words.ensures at (c.in_ok-patch.ensures (drop 2 patch_form)).0)
    ∙ ((c.in_ok-direct.ensures (drop 4 patch_form)).0
    ∙ ((c.in_ok-taken.ensures (drop 6 patch_form)).0 ∙ ((c.in_ok-residual.ensures (drop 8 patch_form)).0 ∙ c.in_err-err.ensures []))))

pub returns-in_err-end-clause-exactly : goal.returns-in_err-end-clause-exactly
returns-in_err-end-clause-exactly c =
    ap is_some c.from_residual-in_err-end.ensures
    ∙ sym ((rw c.new-words.ensures at (c.in_ok-patch.ensures (drop 2 patch_form)).0)
    ∙ ((c.in_ok-direct.ensures (drop 4 patch_form)).0
    ∙ ((c.in_ok-taken.ensures (drop 6 patch_form)).0 ∙ ((c.in_ok-residual.ensures (drop 8 patch_form)).0 ∙ ((c.in_ok-err.ensures []).0 ∙ sym c.in_err-end.ensures)))))

pub returns-clause-exactly : goal.returns-clause-exactly
returns-clause-exactly c =
    sym ((rw c.new-words.ensures at (c.in_ok-patch.ensures (drop 2 patch_form)).0)
    ∙ ((c.in_ok-direct.ensures (drop 4 patch_form)).0
    ∙ ((c.in_ok-taken.ensures (drop 6 patch_form)).0 ∙ ((c.in_ok-residual.ensures (drop 8 patch_form)).0 ∙ ((c.in_ok-err.ensures []).0 ∙ sym c.in_ok-end.ensures)))))

pub returns-clause-numbers : goal.returns-clause-numbers
returns-clause-numbers c =
    (rw c.new-words.ensures at (c.in_ok-patch.ensures (drop 2 patch_form)).1)
    ∙ ap (λ (ns : List ℕ). c.in_ok-patch.patch ∷ ns) ((c.in_ok-direct.ensures (drop 4 patch_form)).1
    ∙ ap (λ (ns : List ℕ). c.in_ok-direct.direct ∷ ns) ((c.in_ok-taken.ensures (drop 6 patch_form)).1
    ∙ ap (λ (ns : List ℕ). c.in_ok-taken.taken ∷ ns) ((c.in_ok-residual.ensures (drop 8 patch_form)).1
    ∙ ap (λ (ns : List ℕ). c.in_ok-residual.residual ∷ ns) (c.in_ok-err.ensures []).1)))
