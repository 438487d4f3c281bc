use Rattle.std.proofs.Common.{◌≤◌, length, ap, sym, subst, arith}
use Rattle.std.proofs.lemmas.List.Elements.{All-same}
use Rattle.room_patches.specs.declared.patch.Patch.{Patch}
use Rattle.room_patches.specs.Patches.{patches, IsPatch}
use Rattle.room_patches.proofs.Valid.{patches-valid, areas-positive}
use Rattle.room_patches.proofs.room.Room.patch.Goals as goal

pub returns-clause-patch : goal.returns-clause-patch
returns-clause-patch c =
    let each = All-same IsPatch c.self.inside.patches.items _ c.self.invariant.all (patches-valid _ c.self.invariant.valid c.self.invariant.regions) in
    let long = ap length c.self.invariant.all in
    let view = ap (λ r. length (patches r)) c.self.view_is in
    subst IsPatch (sym c.index.ensures) (each c.args.i c.index.result.now (omega arith))

pub returns-clause-positive : goal.returns-clause-positive
returns-clause-positive c =
    let each = All-same (λ patch. 1 ≤ patch.area) c.self.inside.patches.items _ c.self.invariant.all (areas-positive _ c.self.invariant.valid c.self.invariant.regions) in
    let long = ap length c.self.invariant.all in
    let view = ap (λ r. length (patches r)) c.self.view_is in
    subst (λ (patch : Patch). 1 ≤ patch.area) (sym c.index.ensures) (each c.args.i c.index.result.now (omega arith))
