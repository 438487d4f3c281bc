use Rattle.std.proofs.Common.{[], ap, is_some, sym, ◌∙◌}
use Rattle.ledger_file.proofs.forms.count_line.Goals as goal

pub returns-in_err-number-clause-exactly : goal.returns-in_err-number-clause-exactly
returns-in_err-number-clause-exactly c = ap is_some c.from_residual.ensures ∙ sym (rw c.new-words.ensures at c.in_err-number.ensures [])

pub returns-in_err-end-clause-exactly : goal.returns-in_err-end-clause-exactly
returns-in_err-end-clause-exactly c =
    ap is_some c.from_residual-in_err-end.ensures ∙ sym ((rw c.new-words.ensures at (c.in_ok-number.ensures []).0) ∙ sym c.in_err-end.ensures)

pub returns-clause-exactly : goal.returns-clause-exactly
returns-clause-exactly c = sym ((rw c.new-words.ensures at (c.in_ok-number.ensures []).0) ∙ sym c.in_ok-end.ensures)
