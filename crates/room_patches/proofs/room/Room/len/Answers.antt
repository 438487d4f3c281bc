use Rattle.std.proofs.Common.{length, ap, arith}
use Rattle.room_patches.proofs.Counts.{some-patches, few-patches}
use Rattle.room_patches.proofs.room.Room.len.Goals as goal

pub returns-clause-some : goal.returns-clause-some
returns-clause-some c =
    let some = some-patches (record { spec = c.self.inside.spec; regions = c.self.inside.regions.items }) c.self.invariant.valid in
    let long = ap length c.self.invariant.all in
    let ok = c.self.inside.patches.ok in
    omega arith

pub returns-clause-few : goal.returns-clause-few
returns-clause-few c =
    let few = few-patches (record { spec = c.self.inside.spec; regions = c.self.inside.regions.items }) c.self.invariant.valid in
    let long = ap length c.self.invariant.all in
    let ok = c.self.inside.patches.ok in
    omega arith
