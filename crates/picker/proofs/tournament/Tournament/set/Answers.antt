use Rattle.std.proofs.Common.{length, ap, arith}
use Rattle.picker.proofs.Nodes.{length-leaf_values}
use Rattle.picker.proofs.tournament.Tournament.set.Goals as goal

pub change-requires-clause-inside : goal.change-requires-clause-inside
change-requires-clause-inside c =
    let long = length-leaf_values c.self.inside.places c.self.inside.nodes.items in
    let view = ap length c.self.view_is in
    omega arith
