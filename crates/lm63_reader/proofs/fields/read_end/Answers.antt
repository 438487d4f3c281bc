use Rattle.std.proofs.Common.{sym}
use Rattle.lux_lines.specs.Walks.{all_tokens}
use Rattle.lux_lines.specs.TokenPieces.{token_piece}
use Rattle.lm63_reader.proofs.Walking.{no_token_none, no_token_some}
use Rattle.lm63_reader.proofs.fields.read_end.Goals as goal

pub returns-in-None : goal.returns-in-None
returns-in-None c = no_token_none (all_tokens c.args.source) c.args.source.read (sym c.in-None.ensures.token)

pub returns-in-Some : goal.returns-in-Some
returns-in-Some c = λ _. no_token_some (all_tokens c.args.source) c.args.source.read (token_piece c.in-Some.token) (sym c.in-Some.ensures.token)
