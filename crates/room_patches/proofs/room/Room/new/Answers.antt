use Rattle.std.proofs.Common.{sym, ◌∙◌, ap, subst}
use Rattle.room_patches.specs.Rooms.{Room}
use Rattle.room_patches.specs.Patches.{patches}
use Rattle.room_patches.specs.Validity.{AreRegions}
use Rattle.room_patches.proofs.Tests.{valid_where_met, refused_by_spec, regions_decide}
use Rattle.room_patches.proofs.Regions.{regions_where_met}
use Rattle.room_patches.proofs.room.Room.new.Goals as goal

pub returns-in-Some-clause-answer : goal.returns-in-Some-clause-answer
returns-in-Some-clause-answer c = λ ne. refused_by_spec (record { spec = c.args.spec; regions = c.args.regions.now }) c.in-Some.fault (sym c.in-Some.ensures)

pub returns-in-Some-region_fault-clause-answer : goal.returns-in-Some-region_fault-clause-answer
returns-in-Some-region_fault-clause-answer c =
    λ ne. regions_decide (record { spec = c.args.spec; regions = c.args.regions.now }) (sym c.in_default.ensures) ∙ sym c.in-Some-region_fault.ensures

pub all_patches-requires : goal.all_patches-requires
all_patches-requires c = valid_where_met c.args.spec (sym c.in_default.ensures)

pub invariant_of-result : goal.invariant_of-result
invariant_of-result c =
    record {
      valid = valid_where_met c.args.spec (sym c.in_default.ensures);
      regions = subst (AreRegions c.args.spec) (sym c.in_ok-regions.ensures.items) (regions_where_met c.args.spec c.args.regions.now (sym c.in_default-region_fault.ensures));
      all = c.in_ok-patches.ensures ∙ ap (λ regions. patches (record { spec = c.args.spec; regions = regions })) (sym c.in_ok-regions.ensures.items);
    }

pub returns-clause-valid : goal.returns-clause-valid
returns-clause-valid c = valid_where_met c.args.spec (sym c.in_default.ensures)

pub returns-clause-regions : goal.returns-clause-regions
returns-clause-regions c = regions_where_met c.args.spec c.args.regions.now (sym c.in_default-region_fault.ensures)

pub returns-clause-answer : goal.returns-clause-answer
returns-clause-answer c = regions_decide (record { spec = c.args.spec; regions = c.args.regions.now }) (sym c.in_default.ensures) ∙ sym c.in_default-region_fault.ensures
