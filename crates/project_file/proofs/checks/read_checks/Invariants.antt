use Rattle.std.proofs.Common.{◌≡◌, None}
use Rattle.std.specs.List.{All}
use Rattle.duties.specs.Duties.{each}
use Rattle.toml.specs.View.{items_view}
use Rattle.project_file.specs.Fields.{toml_items}
use Rattle.project_file.specs.Projects.{check_duty, check_spec, IsCheck}
use Rattle.project_file.proofs.ListedTables.{first_said}
use Rattle.project_file.proofs.checks.read_checks.Given as goal

abbrev pub invariant-loop-number : goal.invariant-loop-number
invariant-loop-number l =
    let items = toml_items (items_view l.items) in
    record {
      checks : l.checks.items ≡ first_said check_spec items l.number;
      met : each l.number (check_duty items) ≡ None;
      valid : All IsCheck l.checks.items;
    }
