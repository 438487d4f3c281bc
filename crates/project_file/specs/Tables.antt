-- The tables of the project file. The format is this project's own.
use Rattle.std.specs.Prelude.{◌-◌, ◌^◌, Bool, List, [], ◌∷◌, codes}
use Rattle.toml.specs.Data.{Data}
use Rattle.project_file.specs.declared.tables.TableAt.{TableAt}
use Rattle.project_file.specs.declared.tables.TableAt.TheVariants.{Top, Room, Solver, Luminaire, Check, Region}
use Rattle.project_file.specs.declared.versions.Version.{Version}
use Rattle.project_file.specs.declared.versions.Version.TheVariants.{One, Two}
use Rattle.project_file.specs.Fields.{Field, field, optional_field, number, text, table, list, is_number_within, is_text_within, is_label_text, has_exactly, has_at_most, is_any_value}

-- a number of 32 bits
abbrev pub is_small : Data → Bool
is_small = is_number_within 0 (2 ^ 32 - 1)

-- the field of the top table that is new in version 2
abbrev pub new_top_fields : Version → List Field
new_top_fields One = []
new_top_fields Two = optional_field (codes "region") (list table) (has_at_most 16) ∷ []

-- the fields of the top table
abbrev pub top_fields : Version → List Field
top_fields version =
    field "version" number (is_number_within 1 2)
    ∷ field "room" table is_any_value
    ∷ field "solver" table is_any_value
    ∷ optional_field (codes "luminaire") (list table) (has_at_most 256)
    ∷ optional_field (codes "check") (list table) (has_at_most 32)
    ∷ new_top_fields version

-- the field of the walls of the room: the reflectance of all, or in version 2 of each
abbrev pub walls_field : Version → Field
walls_field One = field "walls" number is_small
walls_field Two = field "walls" (list number) (has_exactly 4 is_small)

-- the fields of the room: lengths in millimetres, into how many parts the lengths are cut, and reflectances in per mille
abbrev pub room_fields : Version → List Field
room_fields version =
    field "width" number is_small
    ∷ field "depth" number is_small
    ∷ field "height" number is_small
    ∷ field "counts" (list number) (has_exactly 3 is_small)
    ∷ field "floor" number is_small
    ∷ field "ceiling" number is_small
    ∷ walls_field version
    ∷ []

-- the field of the solver: the residual flux in nanolumens below which it stops
abbrev pub solver_fields : List Field
solver_fields = field "threshold" number (is_number_within 1 (10 ^ 16)) ∷ []

-- the file of a luminaire
abbrev pub file_field : Field
file_field = field "file" text (is_text_within 1 255)

-- where a luminaire hangs in millimetres, how it is turned in millidegrees, and its level in per mille
abbrev pub place_fields : List Field
place_fields =
    field "x" number is_small
    ∷ field "y" number is_small
    ∷ field "z" number is_small
    ∷ field "rotation" number is_small
    ∷ field "level" number is_small
    ∷ []

-- the fields of a check: its name; a level rectangle, from and to on two axes and its height, in millimetres; how many points
-- stand along each of its sides; the maintenance factor in per mille; and the limits, of the average in lux and of the
-- uniformity in per mille
abbrev pub check_fields : List Field
check_fields =
    field "name" text is_label_text
    ∷ field "x" (list number) (has_exactly 2 is_small)
    ∷ field "y" (list number) (has_exactly 2 is_small)
    ∷ field "z" number is_small
    ∷ field "points" (list number) (has_exactly 2 is_small)
    ∷ field "maintenance" number (is_number_within 1 1000)
    ∷ field "average" number (is_number_within 0 100000)
    ∷ field "uniformity" number (is_number_within 0 1000)
    ∷ []

-- the fields of a region: the number of its surface; its rectangle, from and to on the two axes of that surface, in
-- millimetres; and its reflectance in per mille
abbrev pub region_fields : List Field
region_fields =
    field "surface" number is_small
    ∷ field "u" (list number) (has_exactly 2 is_small)
    ∷ field "v" (list number) (has_exactly 2 is_small)
    ∷ field "reflectance" number is_small
    ∷ []

-- the fields of a table
abbrev pub fields_of : TableAt → List Field
fields_of (Top version) = top_fields version
fields_of (Room version) = room_fields version
fields_of Solver = solver_fields
fields_of (Luminaire i) = file_field ∷ place_fields
fields_of (Check i) = check_fields
fields_of (Region i) = region_fields
