use Rattle.std.proofs.Common.{◌≡◌, None}
use Rattle.duties.specs.Duties.{each}
use Rattle.toml.specs.View.{items_view}
use Rattle.project_file.specs.Fields.{toml_items}
use Rattle.project_file.specs.Projects.{region_duty, region_of}
use Rattle.project_file.proofs.ListedTables.{first_said}
use Rattle.project_file.proofs.regions.read_regions.Given as goal

abbrev pub invariant-loop-number : goal.invariant-loop-number
invariant-loop-number l =
    let items = toml_items (items_view l.items) in
    record {
      regions : l.regions.items ≡ first_said region_of items l.number;
      met : each l.number (region_duty items) ≡ None;
    }
