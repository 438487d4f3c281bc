use Rattle.visibility.proofs.Hiding.{hidden_decides}
use Rattle.visibility.proofs.facts.hidden_where_inside.Goals as goal

pub returns : goal.returns
returns c = hidden_decides
