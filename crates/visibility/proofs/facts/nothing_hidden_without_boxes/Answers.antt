use Rattle.visibility.proofs.Hiding.{hidden-nil}
use Rattle.visibility.proofs.facts.nothing_hidden_without_boxes.Goals as goal

pub returns : goal.returns
returns c = hidden-nil
