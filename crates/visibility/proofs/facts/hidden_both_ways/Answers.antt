use Rattle.visibility.proofs.Hiding.{hidden_comm}
use Rattle.visibility.proofs.facts.hidden_both_ways.Goals as goal

pub returns : goal.returns
returns c = hidden_comm
