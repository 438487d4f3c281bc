use Rattle.std.proofs.Common.{◌≤◌, length, sym, subst, ap, ◌∙◌, arith}
use Rattle.photo_web.specs.Validity.{IsWeb}
use Rattle.symmetry.specs.Images.{planes_of}
use Rattle.symmetry.proofs.Growth.{grown_none}
use Rattle.symmetry.proofs.Webs.{grown_web, valid_expansion}
use Rattle.symmetry.proofs.expansion.expand.Goals as goal

pub grow-requires-clause-start : goal.grow-requires-clause-start
grow-requires-clause-start c = grown_none c.args.sym c.args.planes.now c.args.rows.now (length c.args.gammas.now) _ _ c.in_ok-grown.ensures.planes c.in_ok-grown.ensures.values

pub from_vecs-requires : goal.from_vecs-requires
from_vecs-requires c =
    let none = ap length c.in_ok-grown.ensures.planes in
    let all = ap length c.in_ok-grow.ensures.all.planes_are in
    let before = c.in_ok-grown.grown.planes.ok in
    let after = c.grow.new.grown.planes.ok in
    let few : length (planes_of c.args.sym c.args.planes.now) ≤ 1441 = omega (arith, c.in_ok-grow.ensures.few) in
    subst IsWeb (sym (grown_web c.args.sym c.args.planes.now c.args.gammas.now c.args.rows.now _ _ _ c.in_ok-gammas.ensures.items c.in_ok-grow.ensures.all))
    (valid_expansion c.args.sym c.args.planes.now c.args.gammas.now c.args.rows.now c.requires.some c.requires.span few c.requires.gammas c.requires.count c.requires.limited)

pub returns : goal.returns
returns c =
    c.from_vecs.ensures
    ∙ grown_web c.args.sym c.args.planes.now c.args.gammas.now c.args.rows.now _ _ _ c.in_ok-gammas.ensures.items c.in_ok-grow.ensures.all
