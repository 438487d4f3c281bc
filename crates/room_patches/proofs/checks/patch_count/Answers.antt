use Rattle.std.proofs.Common.{sym}
use Rattle.room_patches.specs.Rooms.{plain_room}
use Rattle.room_patches.proofs.Counts.{length-patches}
use Rattle.room_patches.proofs.checks.patch_count.Goals as goal

pub returns : goal.returns
returns c = sym (length-patches (plain_room c.args.room))
