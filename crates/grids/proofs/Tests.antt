-- What is known of a grid that passes its tests.
use Rattle.std.proofs.Common.{◌≡◌, None}
use Rattle.std.proofs.lemmas.Bool.{leb-true, ltb-true, and_parts}
use Rattle.duties.specs.Duties.{first}
use Rattle.duties.proofs.Orders.{unless_met, all_met, each_met}
use Rattle.room_patches.specs.Rooms.{plain_room}
use Rattle.room_patches.specs.Patches.{patches}
use Rattle.room_patches.specs.Validity.{IsRoom}
use Rattle.room_patches.proofs.Regions.{none_found}
use Rattle.grids.specs.declared.spec.GridSpec.{GridSpec}
use Rattle.grids.specs.declared.faults.GridFault.TheVariants.{TooNear}
use Rattle.grids.specs.Grids.{count, point_at}
use Rattle.grids.specs.Validity.{is_too_near, point_duty, grid_duties, IsGrid}

pub valid_where_met : (grid : GridSpec) → IsRoom grid.room → first (grid_duties grid) ≡ None → IsGrid grid
unfolding grid_duties point_duty
valid_where_met grid room met =
    let a = all_met _ _ met in
    let b = all_met _ _ a.1 in
    let c = all_met _ _ b.1 in
    let rectangle = and_parts _ _ (unless_met _ _ a.0) in
    let plan = and_parts _ _ rectangle.0 in
    let x = and_parts _ _ plan.0 in
    let y = and_parts _ _ plan.1 in
    let counts = and_parts _ _ (unless_met _ _ b.0) in
    let sides = and_parts _ _ counts.0 in
    let columns = and_parts _ _ sides.0 in
    let rows = and_parts _ _ sides.1 in
    record {
      laid = record {
        room = room;
        wide = ltb-true _ _ x.0;
        within_width = leb-true _ _ x.1;
        deep = ltb-true _ _ y.0;
        within_depth = leb-true _ _ y.1;
        below_ceiling = ltb-true _ _ rectangle.1;
        some_columns = leb-true _ _ columns.0;
        few_columns = leb-true _ _ columns.1;
        some_rows = leb-true _ _ rows.0;
        few_rows = leb-true _ _ rows.1;
        few = leb-true _ _ counts.1;
      };
      apart = λ g inside. none_found (is_too_near (point_at grid g)) (patches (plain_room grid.room)) (TooNear g) (each_met (point_duty grid) (count grid) g c.0 inside);
    }
