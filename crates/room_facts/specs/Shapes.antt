-- Shapes that only the code stands on. No public clause cites these.
use Rattle.std.specs.Prelude.{ℕ, ◌<◌, List, slice_index_or}
use Rattle.grids.specs.declared.spec.GridSpec.{GridSpec}
use Rattle.grids.specs.Grids.{count}
use Rattle.grids.specs.GridPoint.{EnclosesLight}
use Rattle.lit_room.specs.LitRooms.{Lighting}
use Rattle.project_file.specs.Projects.{project_room}
use Rattle.room_facts.specs.RoomFacts.{direct_on}

-- the intervals of the points of a grid enclose the light there, whatever flux within its interval each patch has
abbrev pub EnclosePoints : Lighting → GridSpec → List (ℕ × ℕ) → List (ℕ × ℕ) → Type 0
EnclosePoints lighting grid bounds points = (g : ℕ) → g < count grid → EnclosesLight (project_room lighting.project) grid (direct_on lighting grid) bounds g (slice_index_or points g (0, 0))
