use Rattle.std.proofs.Common.{◌∷◌, []}
use Rattle.ledger_file.specs.Forms.Place.{Numeral}
use Rattle.ledger_file.proofs.Steps.{word_then}
use Rattle.ledger_file.proofs.forms.field.Goals as goal

pub returns-in_err-keyword : goal.returns-in_err-keyword
returns-in_err-keyword c = rw c.from_residual.ensures (λ rest. c.in_err-keyword.ensures (Numeral ∷ rest))

pub returns : goal.returns
returns c = word_then c.args.expected.now (Numeral ∷ []) _ _ _ _ c.in_ok-keyword.ensures c.number.ensures
