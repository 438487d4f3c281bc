-- What the bytes of a project file stand for: a project, or the first of its duties that isn't met. The format is this
-- project's own.
use Rattle.std.specs.Prelude.{◌≡◌, ℕ, ◌+◌, ◌^◌, ◌<◌, ◌≤◌, ◌==◌, nat_le, true, if◌then◌else◌, List, [], ◌∷◌, length, map, filter, not, take, slice_get, codes, Option, Some, None, Result, Err}
use Rattle.std.specs.List.{list_any, position_or_len, All}
use Rattle.std.specs.Str.{bytes_eq, is_utf8}
use Rattle.duties.specs.Duties.{Duty, unless, first, each, judged}
use Rattle.toml.specs.Data.{Data, Members, get_member}
use Rattle.toml.specs.Parse.{parse_document}
use Rattle.room_patches.specs.declared.spec.RoomSpec.{RoomSpec}
use Rattle.room_patches.specs.declared.region.Region.{Region}
use Rattle.room_patches.specs.Rooms.{Room}
use Rattle.fixtures.specs.declared.spec.FixtureSpec.{FixtureSpec}
use Rattle.compliance.specs.declared.checks.CheckSpec.{CheckSpec}
use Rattle.compliance.specs.Verdict.{HasLimits}
use Rattle.project_file.specs.declared.faults.ProjFault.{ProjFault}
use Rattle.project_file.specs.declared.faults.ProjFault.TheVariants as fault
use Rattle.project_file.specs.declared.tables.TableAt.TheVariants as table_at
use Rattle.project_file.specs.declared.versions.Version.{Version}
use Rattle.project_file.specs.declared.versions.Version.TheVariants.{One, Two}
use Rattle.project_file.specs.Versions.{version_in}
use Rattle.project_file.specs.Names.{fault_name}
use Rattle.project_file.specs.Fields.{is_label, toml_number, toml_text, toml_table, toml_list}
use Rattle.project_file.specs.Tables.{file_field, place_fields}
use Rattle.project_file.specs.FieldDuties.{keys_duty, field_duty, fields_duty, table_duty}

-- the tables of a file
abbrev pub room_in : Members → Members
room_in t = toml_table (get_member (codes "room") t)

abbrev pub solver_in : Members → Members
solver_in t = toml_table (get_member (codes "solver") t)

abbrev pub luminaires_in : Members → List Data
luminaires_in t = toml_list (get_member (codes "luminaire") t)

abbrev pub checks_in : Members → List Data
checks_in t = toml_list (get_member (codes "check") t)

-- the tables of the regions, of which version 1 has none
abbrev pub regions_in : Version → Members → List Data
regions_in One t = []
regions_in Two t = toml_list (get_member (codes "region") t)

-- table i of a list
abbrev pub listed_table : List Data → ℕ → Members
listed_table tables i = toml_table (slice_get tables i)

-- the name of the file that a luminaire's table gives
abbrev pub file_name : Members → List ℕ
file_name t = toml_text (get_member (codes "file") t)

-- the names that some luminaires give, one each
abbrev pub file_names : List Data → List (List ℕ)
file_names luminaires = map (λ luminaire. file_name (toml_table (Some luminaire))) luminaires

-- some names without later repetitions: each stands where it came first
abbrev pub without_repetitions : List (List ℕ) → List (List ℕ)
without_repetitions [] = []
without_repetitions (name ∷ names) = name ∷ filter (λ other. not (bytes_eq name other)) (without_repetitions names)

-- the duty of luminaire i with this table, where it and those before it name these different files: its keys, its file, that
-- the files are no more than 32, and its other fields
unfoldable pub luminaire_table_duty : ℕ → List (List ℕ) → Members → Duty ProjFault
luminaire_table_duty i files t = first (
    keys_duty (table_at.Luminaire i) t
    ∷ field_duty (table_at.Luminaire i) t file_field
    ∷ unless (nat_le (length files) 32) (fault.Range (fault_name (table_at.Luminaire i) (codes "file")))
    ∷ fields_duty (table_at.Luminaire i) place_fields t
    ∷ [])

-- the duty of luminaire i of a list
abbrev pub luminaire_duty : List Data → ℕ → Duty ProjFault
luminaire_duty luminaires i = luminaire_table_duty i (without_repetitions (file_names (take (i + 1) luminaires))) (listed_table luminaires i)

-- the duty of check i of a list
abbrev pub check_duty : List Data → ℕ → Duty ProjFault
check_duty checks i = table_duty (table_at.Check i) (listed_table checks i)

-- the duty of region i of a list
abbrev pub region_duty : List Data → ℕ → Duty ProjFault
region_duty regions i = table_duty (table_at.Region i) (listed_table regions i)

-- all duties of a file of a version: the top table, the room, the solver, each luminaire, each check, and each region
unfoldable pub project_duties : Version → Members → List (Duty ProjFault)
project_duties version t =
    table_duty (table_at.Top version) t
    ∷ table_duty (table_at.Room version) (room_in t)
    ∷ table_duty table_at.Solver (solver_in t)
    ∷ each (length (luminaires_in t)) (luminaire_duty (luminaires_in t))
    ∷ each (length (checks_in t)) (check_duty (checks_in t))
    ∷ each (length (regions_in version t)) (region_duty (regions_in version t))
    ∷ []

-- a room to light and the regions of its surfaces, the residual flux at which the solver stops, the files of the photometries,
-- the luminaires, and the checks
pub record Project : Type 0 where
  pub room : RoomSpec
  pub regions : List Region
  pub threshold : ℕ
  pub files : List (List ℕ)
  pub fixtures : List FixtureSpec
  pub checks : List CheckSpec

-- the room of a project
abbrev pub project_room : Project → Room
project_room project = record { spec = project.room; regions = project.regions }

-- the number at a place of a list
abbrev pub number_at : Option Data → ℕ → ℕ
number_at value i = toml_number (slice_get (toml_list value) i)

-- the first four numbers of a list
abbrev pub four_numbers : List Data → List ℕ
four_numbers values =
    toml_number (slice_get values 0) ∷ toml_number (slice_get values 1) ∷ toml_number (slice_get values 2) ∷ toml_number (slice_get values 3) ∷ []

-- the reflectances of the four walls that a room's table says: one for all, or in version 2 each
abbrev pub walls_of : Version → Members → List ℕ
walls_of One t =
    let wall = toml_number (get_member (codes "walls") t) in
    wall ∷ wall ∷ wall ∷ wall ∷ []
walls_of Two t = four_numbers (toml_list (get_member (codes "walls") t))

-- the room that a table says
unfoldable pub room_of : Version → Members → RoomSpec
room_of version t = record {
  width = toml_number (get_member (codes "width") t);
  depth = toml_number (get_member (codes "depth") t);
  height = toml_number (get_member (codes "height") t);
  nx = number_at (get_member (codes "counts") t) 0;
  ny = number_at (get_member (codes "counts") t) 1;
  nz = number_at (get_member (codes "counts") t) 2;
  floor = toml_number (get_member (codes "floor") t);
  ceiling = toml_number (get_member (codes "ceiling") t);
  walls = walls_of version t;
}

-- the luminaire that a table says, with the web of this number
unfoldable pub fixture_spec : ℕ → Members → FixtureSpec
fixture_spec web t = record {
  web = web;
  x = toml_number (get_member (codes "x") t);
  y = toml_number (get_member (codes "y") t);
  z = toml_number (get_member (codes "z") t);
  rotation = toml_number (get_member (codes "rotation") t);
  level = toml_number (get_member (codes "level") t);
}

-- the same where the web is the number of its file among these files
abbrev pub fixture_spec_among : List (List ℕ) → Members → FixtureSpec
fixture_spec_among files t = fixture_spec (position_or_len (bytes_eq (file_name t)) files) t

-- some luminaires over these files
abbrev pub fixture_specs_among : List (List ℕ) → List Data → List FixtureSpec
fixture_specs_among files luminaires = map (λ luminaire. fixture_spec_among files (toml_table (Some luminaire))) luminaires

-- the check that a table says
unfoldable pub check_spec : Members → CheckSpec
check_spec t = record {
  name = toml_text (get_member (codes "name") t);
  x0 = number_at (get_member (codes "x") t) 0;
  x1 = number_at (get_member (codes "x") t) 1;
  y0 = number_at (get_member (codes "y") t) 0;
  y1 = number_at (get_member (codes "y") t) 1;
  z = toml_number (get_member (codes "z") t);
  px = number_at (get_member (codes "points") t) 0;
  py = number_at (get_member (codes "points") t) 1;
  maintenance = toml_number (get_member (codes "maintenance") t);
  average = toml_number (get_member (codes "average") t);
  uniformity = toml_number (get_member (codes "uniformity") t);
}

-- the checks that some tables say
abbrev pub check_specs : List Data → List CheckSpec
check_specs checks = map (λ check. check_spec (toml_table (Some check))) checks

-- the region that a table says
unfoldable pub region_of : Members → Region
region_of t = record {
  surface = toml_number (get_member (codes "surface") t);
  u0 = number_at (get_member (codes "u") t) 0;
  u1 = number_at (get_member (codes "u") t) 1;
  v0 = number_at (get_member (codes "v") t) 0;
  v1 = number_at (get_member (codes "v") t) 1;
  reflectance = toml_number (get_member (codes "reflectance") t);
}

-- the regions that some tables say
abbrev pub regions_of : List Data → List Region
regions_of regions = map (λ region. region_of (toml_table (Some region))) regions

-- the project that a file of a version says
abbrev pub project_in : Version → Members → Project
project_in version t =
    let files = without_repetitions (file_names (luminaires_in t)) in
    record {
      room = room_of version (room_in t);
      regions = regions_of (regions_in version t);
      threshold = toml_number (get_member (codes "threshold") (solver_in t));
      files = files;
      fixtures = fixture_specs_among files (luminaires_in t);
      checks = check_specs (checks_in t);
    }

-- the TOML tree of some bytes, where they are UTF-8 and a TOML document
abbrev pub tree_of : List ℕ → Option Members
tree_of bytes = if is_utf8 bytes then parse_document bytes else None

-- the project of a tree of a version, or its first fault
abbrev pub project_of_version : Option Version → Members → Result Project ProjFault
project_of_version None t = Err fault.Version
project_of_version (Some version) t = judged (project_duties version t) (project_in version t)

-- the project of a tree, or its first fault: whether it says a version comes first
abbrev pub project_of_tree : Option Members → Result Project ProjFault
project_of_tree None = Err fault.Toml
project_of_tree (Some t) = project_of_version (version_in t) t

-- the project that some bytes stand for, or why they stand for none
abbrev pub project_of : List ℕ → Result Project ProjFault
project_of bytes = project_of_tree (tree_of bytes)

-- What each check has: a name of 1 to 32 letters, digits, `-` and `_`, and numbers by which it can be judged.
pub record IsCheck (check : CheckSpec) : Type 0 where
  pub name : is_label check.name ≡ true
  pub limits : HasLimits check

-- What each project has: at most 16 regions, a threshold from 1 to 10^16, at most 256 luminaires, at most 32 files, for each
-- luminaire a file, for each file a luminaire, and at most 32 checks, each of which can be judged.
pub record IsProject (regions : List Region) (threshold : ℕ) (files : List (List ℕ)) (fixtures : List FixtureSpec) (checks : List CheckSpec) : Type 0 where
  pub few_regions : length regions ≤ 16
  pub some_threshold : 1 ≤ threshold
  pub low_threshold : threshold ≤ 10 ^ 16
  pub few_fixtures : length fixtures ≤ 256
  pub few_files : length files ≤ 32
  pub webs : All (λ f. f.web < length files) fixtures
  pub used : (j : ℕ) → j < length files → list_any (λ f. f.web == j) fixtures ≡ true
  pub few_checks : length checks ≤ 32
  pub are_checks : All IsCheck checks
