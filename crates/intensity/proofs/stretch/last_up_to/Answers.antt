use Rattle.std.proofs.Common.{◌≡◌, true, false, leb, rules, arith}
use Rattle.std.specs.List.Sorted.{IsPartitionPoint}
use Rattle.std.proofs.lemmas.List.Sorted.{IsPartitionPoint-from_clause, IsPartitionedBy-leb}
use Rattle.intensity.proofs.Places.{falls_nowhere, some_up_to, last_is, last_below, next_above}
use Rattle.intensity.proofs.stretch.last_up_to.Goals as goal

-- the angles at or below stand first
up_to : (c : goal.After-partition_point) → IsPartitionPoint (λ x. leb x c.args.angle ≡ true) (λ x. leb x c.args.angle ≡ false) c.args.angles.now c.partition_point.result
up_to c =
    let parted = IsPartitionedBy-leb (λ x. x) c.args.angles.now c.args.angle (falls_nowhere _ c.requires.rising) in
    IsPartitionPoint-from_clause (λ x. leb x c.args.angle) _ _ c.partition_point.ensures.partitioned parted (λ a r q k. search rules)

pub overflow_sub-result : goal.overflow_sub-result
overflow_sub-result c = some_up_to _ _ _ (up_to c) c.requires.some c.requires.first

pub returns : goal.returns
returns c =
    let positive = some_up_to _ _ _ (up_to c) c.requires.some c.requires.first in
    record {
      value = last_is _ _ _ (up_to c) c.partition_point.ensures.bound;
      inside = omega (arith, c.partition_point.ensures.bound);
      below = last_below _ _ _ (up_to c) positive;
      next_above = next_above _ _ _ (up_to c) positive;
    }
