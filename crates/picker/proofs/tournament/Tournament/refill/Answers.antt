use Rattle.std.proofs.Common.{length, ap, arith}
use Rattle.picker.proofs.Nodes.{length-leaf_values}
use Rattle.picker.proofs.tournament.Tournament.refill.Goals as goal

pub fill-requires-clause-count : goal.fill-requires-clause-count
fill-requires-clause-count c =
    let long = length-leaf_values c.self.inside.places c.self.inside.nodes.items in
    let view = ap length c.self.view_is in
    let nodes = ap length c.as_mut_slice.ensures.value in
    let count = c.self.invariant.count in
    omega arith
