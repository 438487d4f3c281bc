use Rattle.std.proofs.Common.{◌≤◌, ◌∙◌}
use Rattle.std.proofs.lemmas.List.Elements.{All-same}
use Rattle.room_patches.specs.Patches.{IsPatch}
use Rattle.room_patches.proofs.Valid.{patches-valid, areas-positive}
use Rattle.room_patches.proofs.room.Room.patches.Goals as goal

pub returns-clause-patch : goal.returns-clause-patch
returns-clause-patch c =
    All-same IsPatch c.as_slice.result.now _ (c.as_slice.ensures.value ∙ c.self.invariant.all) (patches-valid _ c.self.invariant.valid c.self.invariant.regions)

pub returns-clause-positive : goal.returns-clause-positive
returns-clause-positive c =
    All-same (λ patch. 1 ≤ patch.area) c.as_slice.result.now _ (c.as_slice.ensures.value ∙ c.self.invariant.all) (areas-positive _ c.self.invariant.valid c.self.invariant.regions)
