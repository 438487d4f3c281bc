use Rattle.std.proofs.Common.{◌≡◌, ◌+◌, ◌*◌, ◌≤◌, length, take}
use Rattle.std.specs.List.{flat_map}
use Rattle.room_patches.specs.Patches.{patches}
use Rattle.boxes.specs.Boxes.{box_patches}
use Rattle.boxes.proofs.checks.patch_count.Given as goal

abbrev pub invariant-loop-spec : goal.invariant-loop-spec
invariant-loop-spec l = record {
  value : l.n ≡ length (patches l.room) + length (flat_map box_patches (take l.spec-index l.boxes));
  some : 1 ≤ l.n;
  few : l.n ≤ 4096 + 24576 * l.spec-index;
}
