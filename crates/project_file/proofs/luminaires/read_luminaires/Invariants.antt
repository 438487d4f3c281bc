use Rattle.std.proofs.Common.{◌≡◌, ◌≤◌, true, None, length}
use Rattle.duties.specs.Duties.{each}
use Rattle.toml.specs.View.{items_view}
use Rattle.project_file.specs.Fields.{toml_items}
use Rattle.project_file.specs.Projects.{luminaire_duty}
use Rattle.project_file.specs.Shapes.{texts, are_names}
use Rattle.project_file.proofs.Webs.{files_named, fixtures_named}
use Rattle.project_file.proofs.luminaires.read_luminaires.Given as goal

abbrev pub invariant-loop-number : goal.invariant-loop-number
invariant-loop-number l =
    let luminaires = toml_items (items_view l.items) in
    record {
      files : texts l.files.keys ≡ files_named luminaires l.number;
      fixtures : l.fixtures.items ≡ fixtures_named luminaires (files_named luminaires l.number) l.number;
      met : each l.number (luminaire_duty luminaires) ≡ None;
      few : length l.files.keys ≤ 32;
      named : are_names (texts l.files.keys) ≡ true;
    }
