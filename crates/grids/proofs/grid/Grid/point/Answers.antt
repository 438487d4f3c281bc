use Rattle.std.proofs.Common.{◌≡◌, ◌<◌, ℤ, List, length, sym, ap, subst, ◌∙◌, arith, false}
use Rattle.std.specs.Prelude.{All}
use Rattle.room_patches.specs.Rooms.{plain_room}
use Rattle.room_patches.specs.Patches.{patches}
use Rattle.room_patches.specs.Places.{IsPlace}
use Rattle.grids.specs.declared.spec.GridSpec.{GridSpec}
use Rattle.grids.specs.Grids.{count, point_at}
use Rattle.grids.specs.Validity.{is_too_near, IsGrid}
use Rattle.grids.proofs.Points.{length-points, point-listed, IsPlace-point_at}
use Rattle.grids.proofs.grid.Grid.point.Goals.{After-self, After-index}
use Rattle.grids.proofs.grid.Grid.point.Goals as goal

-- the grid as it is held inside is the one that clauses see
valid : (c : After-self) → IsGrid c.args.self.now
valid c = subst IsGrid c.self.view_is c.self.invariant.valid

found : (c : After-index) → c.index.result.now ≡ point_at c.args.self.now c.args.g
found c =
    c.index.ensures
    ∙ (point-listed c.self.inside.spec _ c.args.g _ c.self.invariant.all (subst (λ (grid : GridSpec). c.args.g < count grid) (sym c.self.view_is) c.requires)
    ∙ ap (λ (grid : GridSpec). point_at grid c.args.g) c.self.view_is)

pub index-requires : goal.index-requires
index-requires c =
    let listed = ap length c.self.invariant.all in
    let long = length-points c.self.inside.spec in
    let same = ap count c.self.view_is in
    let ok = c.self.inside.points.ok in
    omega arith

pub returns-clause-value : goal.returns-clause-value
returns-clause-value c = found (goal.at.returns-clause-value c).After-index

pub returns-clause-place : goal.returns-clause-place
returns-clause-place c =
    let here = goal.at.returns-clause-place c in
    subst IsPlace (sym (found here.After-index)) (IsPlace-point_at c.args.self.now c.args.g (valid here.After-self).laid c.requires)

pub returns-clause-apart : goal.returns-clause-apart
returns-clause-apart c =
    let here = goal.at.returns-clause-apart c in
    subst (λ (point : List ℤ). All (λ patch. is_too_near point patch ≡ false) (patches (plain_room c.args.self.now.room))) (sym (found here.After-index)) ((valid here.After-self).apart c.args.g c.requires)
