-- What only the code stands on. No public clause cites it.
use Rattle.std.specs.Prelude.{◌≤◌}
use Rattle.room_patches.specs.Validity.{IsRoom}
use Rattle.workload.specs.declared.layouts.Layout.{Layout}

-- a valid room with 1 to 4 columns and 1 to 3 rows of luminaires
pub record IsLayout (layout : Layout) : Type 0 where
  pub room : IsRoom layout.room
  pub some_columns : 1 ≤ layout.columns
  pub few_columns : layout.columns ≤ 4
  pub some_rows : 1 ≤ layout.rows
  pub few_rows : layout.rows ≤ 3
