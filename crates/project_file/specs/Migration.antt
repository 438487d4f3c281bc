-- Which file of version 2 stands for a file of version 1. The format is this project's own.
use Rattle.std.specs.Prelude.{◌≡◌, ℕ, pos, if◌then◌else◌, List, codes, Some, Ok}
use Rattle.std.specs.Str.{bytes_eq}
use Rattle.toml.specs.Data.{Data, integer, array, table, no_items, item, Members, no_members, member}
use Rattle.project_file.specs.declared.versions.Version.TheVariants.{One, Two}
use Rattle.project_file.specs.Versions.{version_in}
use Rattle.project_file.specs.Projects.{Project, project_of_tree}

-- some members, with another value at a key
abbrev pub with_value : List ℕ → (Data → Data) → Members → Members
with_value key change no_members = no_members
with_value key change (member other value members) = member other (if bytes_eq key other then change value else value) (with_value key change members)

-- a list of four times a value
abbrev pub four_times : Data → Data
four_times value = array (item value (item value (item value (item value no_items))))

-- a room in which the reflectance of all walls is that of each
abbrev pub migrated_room : Data → Data
migrated_room (table t) = table (with_value (codes "walls") four_times t)
migrated_room value = value

-- a file of version 1 as one of version 2: the version is 2, its walls stand one by one, and all else stays
abbrev pub migrated : Members → Members
migrated t = with_value (codes "version") (λ _. integer (pos 2)) (with_value (codes "room") migrated_room t)

-- migration keeps the project: the file that stands for one of version 1 has version 2, and says what that one says
abbrev pub MigrationKeepsTheProject : Type 0
MigrationKeepsTheProject = (t : Members) (project : Project) → version_in t ≡ Some One → project_of_tree (Some t) ≡ Ok project → (version_in (migrated t) ≡ Some Two) × (project_of_tree (Some (migrated t)) ≡ Ok project)
