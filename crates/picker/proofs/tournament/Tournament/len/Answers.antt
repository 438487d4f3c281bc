use Rattle.std.proofs.Common.{length, sym, ap, ◌∙◌}
use Rattle.picker.proofs.Nodes.{length-leaf_values}
use Rattle.picker.proofs.tournament.Tournament.len.Goals as goal

pub returns-clause-value : goal.returns-clause-value
returns-clause-value c = sym (length-leaf_values c.self.inside.places c.self.inside.nodes.items) ∙ ap length c.self.view_is
