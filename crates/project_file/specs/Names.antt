-- How a fault names a field of the project file: the path to it. This project's own rule.
use Rattle.std.specs.Prelude.{ℕ, zero, suc, ◌==◌, ◌&&◌, ◌||◌, nat_lt, nat_le, Bool, if◌then◌else◌, List, [], ◌++◌, length, take, slice_index, codes}
use Rattle.std.specs.Fmt.{decimal}
use Rattle.project_file.specs.declared.tables.TableAt.{TableAt}
use Rattle.project_file.specs.declared.tables.TableAt.TheVariants.{Top, Room, Solver, Luminaire, Check, Region}

-- what stands before a key of an element of a list, which are numbered from 0
abbrev pub numbered : List ℕ → ℕ → List ℕ
numbered list number = list ++ codes "." ++ decimal number ++ codes "."

-- what stands before a key of this table
abbrev pub prefix : TableAt → List ℕ
prefix (Top version) = []
prefix (Room version) = codes "room."
prefix Solver = codes "solver."
prefix (Luminaire number) = numbered (codes "luminaire") number
prefix (Check number) = numbered (codes "check") number
prefix (Region number) = numbered (codes "region") number

-- the text ends at this index, or the byte there begins a character: one from 128 to 191 stands within a character
abbrev pub is_boundary : List ℕ → ℕ → Bool
is_boundary text index =
    nat_lt index (length text) && (nat_lt (slice_index text index) 128 || nat_le 192 (slice_index text index)) || (index == length text)

-- the last such index up to this one
abbrev pub last_boundary : List ℕ → ℕ → ℕ
last_boundary text zero = 0
last_boundary text (suc index) = if is_boundary text (suc index) then suc index else last_boundary text index

-- as many whole characters as fit in 255 bytes
abbrev pub fitting_front : List ℕ → List ℕ
fitting_front text = take (last_boundary text 255) text

-- a text, or two quotation marks where it is empty
abbrev pub or_quotation_marks : List ℕ → List ℕ
or_quotation_marks text = if length text == 0 then codes "\"\"" else text

-- the name of a field: as much of its path as fits
unfoldable pub fault_name : TableAt → List ℕ → List ℕ
fault_name table_at key = or_quotation_marks (fitting_front (prefix table_at ++ key))
