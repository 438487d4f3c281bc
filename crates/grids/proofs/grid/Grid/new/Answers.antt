use Rattle.std.proofs.Common.{sym, ap, subst, ◌∙◌}
use Rattle.room_patches.specs.Validity.{IsRoom}
use Rattle.grids.specs.declared.spec.GridSpec.{GridSpec}
use Rattle.grids.specs.Validity.{IsGrid}
use Rattle.grids.proofs.Tests.{valid_where_met}
use Rattle.grids.proofs.grid.Grid.new.Goals.{In_default}
use Rattle.grids.proofs.grid.Grid.new.Goals as goal

-- no test failed
valid : (c : In_default) → IsGrid c.of-spec.result
valid c =
    let room = subst IsRoom (sym c.spec.ensures.value ∙ sym (ap (λ (grid : GridSpec). grid.room) c.of-spec.ensures)) c.spec.ensures.valid in
    valid_where_met c.of-spec.result room (sym c.in_default.ensures)

pub all_points-requires : goal.all_points-requires
all_points-requires c = (valid (goal.at.all_points-requires c).In_default).laid

pub invariant_of-result : goal.invariant_of-result
invariant_of-result c = record { valid = valid (goal.at.invariant_of-result c).In_default; all = c.in_ok-points.ensures }
