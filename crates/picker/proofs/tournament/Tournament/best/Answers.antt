use Rattle.std.proofs.Common.{List, ℕ, length, get_or, ap, arith}
use Rattle.picker.specs.declared.contender.Contender.{Contender}
use Rattle.picker.specs.Shapes.{leaf_values}
use Rattle.picker.proofs.Nodes.{length-leaf_values}
use Rattle.picker.proofs.tournament.Tournament.best.Goals as goal

pub returns-clause-inside : goal.returns-clause-inside
returns-clause-inside c =
    let long = length-leaf_values c.self.inside.places c.self.inside.nodes.items in
    let view = ap length c.self.view_is in
    let inside = c.best-best.ensures.inside in
    omega arith

pub returns-clause-most : goal.returns-clause-most
returns-clause-most c k h =
    let long = length-leaf_values c.self.inside.places c.self.inside.nodes.items in
    let view = ap length c.self.view_is in
    let at = ap (λ (values : List ℕ). get_or values k 0) c.self.view_is in
    let nodes = ap (λ (nodes : List Contender). get_or (leaf_values c.self.inside.places nodes) k 0) c.as_slice.ensures.value in
    let most = c.best-best.ensures.most k (omega arith) in
    omega arith
