-- What a ledger says of a lit room: the interval of each patch and of each point of its checks, and what each check is answered.
use Rattle.std.specs.Prelude.{ℕ, ◌*◌, List, map}
use Rattle.std.specs.List.{range_with_len}
use Rattle.compliance.specs.declared.checks.CheckSpec.{CheckSpec}
use Rattle.compliance.specs.declared.judging.Judged.{Judged}
use Rattle.compliance.specs.Verdict.{average_ends, uniformity_ends, published_verdict}
use Rattle.enclosure.specs.Interval.{intervals_of}
use Rattle.flux_ledger.specs.declared.ledger.Ledger.{Ledger}
use Rattle.grids.specs.declared.spec.GridSpec.{GridSpec}
use Rattle.grids.specs.Grids.{grid_of, count}
use Rattle.grids.specs.GridPoint.{direct_light, light_between}
use Rattle.lit_room.specs.LitRooms.{Lighting, fixtures_of, system_of}
use Rattle.lux_report.specs.Facts.{Facts}
use Rattle.project_file.specs.Projects.{project_room}

-- the direct light at the points of a grid
abbrev pub direct_on : Lighting → GridSpec → List ℕ
direct_on lighting grid = direct_light grid (fixtures_of lighting) lighting.webs

-- the intervals of the points of a grid, by those of the patches
abbrev pub point_intervals : Lighting → List (ℕ × ℕ) → GridSpec → List (ℕ × ℕ)
point_intervals lighting bounds grid = map (light_between (project_room lighting.project) grid (direct_on lighting grid) bounds) (range_with_len 0 (count grid))

-- the intervals of the points of a check, by a ledger
abbrev pub check_intervals : Lighting → Ledger → CheckSpec → List (ℕ × ℕ)
check_intervals lighting ledger check = point_intervals lighting (intervals_of (system_of lighting) ledger) (grid_of lighting.project.room check)

-- what a check is answered by the intervals of its points
abbrev pub answer_by : CheckSpec → List (ℕ × ℕ) → Judged
answer_by check points = record {
  average = average_ends check.maintenance points;
  uniformity = uniformity_ends points;
  average_verdict = published_verdict (1000 * check.average) (average_ends check.maintenance points);
  uniformity_verdict = published_verdict check.uniformity (uniformity_ends points);
}

-- what each check is answered, by a ledger
abbrev pub answers_of : Lighting → Ledger → List Judged
answers_of lighting ledger = map (λ check. answer_by check (check_intervals lighting ledger check)) lighting.project.checks

-- all of it
abbrev pub facts_of : Lighting → ℕ → Ledger → Facts
facts_of lighting shooters ledger = record {
  shooters = shooters;
  bounds = intervals_of (system_of lighting) ledger;
  points = map (check_intervals lighting ledger) lighting.project.checks;
  judged = answers_of lighting ledger;
}
