-- The fields of a table of the project file: what their values say, of what kind and in which range they are. A file is the
-- tree that TOML 1.1 gives of its text.
use Rattle.std.specs.Prelude.{ℕ, ℤ, pos, ◌==◌, ◌&&◌, ◌||◌, nat_le, Bool, true, false, List, [], ◌∷◌, length, codes, Option, Some, is_some, option_and_then, unwrap_or}
use Prim.Native.String.{String}
use Rattle.std.specs.List.{list_all}
use Rattle.std.specs.Char.{is_ascii_alphanumeric}
use Rattle.toml.specs.Data.{Data, Items, no_items, item, Members, no_members, as_integer, as_str, as_array, as_table}

-- the items of an array as a list
abbrev pub toml_items : Items → List Data
toml_items no_items = []
toml_items (item d items) = d ∷ toml_items items

-- a whole number, 0 where it is negative or missing
abbrev pub magnitude : Option ℤ → ℕ
magnitude (Some (pos n)) = n
magnitude _ = 0

-- what a value says as a number, a text, a table or a list; nothing where it is missing or of another kind
abbrev pub toml_number : Option Data → ℕ
toml_number value = magnitude (option_and_then as_integer value)

abbrev pub toml_text : Option Data → List ℕ
toml_text value = unwrap_or (option_and_then as_str value) []

abbrev pub toml_table : Option Data → Members
toml_table value = unwrap_or (option_and_then as_table value) no_members

abbrev pub toml_list : Option Data → List Data
toml_list value = toml_items (unwrap_or (option_and_then as_array value) no_items)

-- what a field holds
pub data Kind : Type 0 where
  number : Kind
  text : Kind
  table : Kind
  list : Kind → Kind

-- the value is of this kind
abbrev pub is_kind : Kind → Data → Bool
is_kind number value = is_some (as_integer value)
is_kind text value = is_some (as_str value)
is_kind table value = is_some (as_table value)
is_kind (list kind) value = is_some (as_array value) && list_all (is_kind kind) (toml_list (Some value))

-- a whole number between two others, both included
abbrev pub is_within : ℕ → ℕ → Option ℤ → Bool
is_within least greatest (Some (pos n)) = nat_le least n && nat_le n greatest
is_within least greatest _ = false

-- the number lies between two others, both included
abbrev pub is_number_within : ℕ → ℕ → Data → Bool
is_number_within least greatest value = is_within least greatest (as_integer value)

-- the text has a number of bytes between two others, both included
abbrev pub is_text_within : ℕ → ℕ → Data → Bool
is_text_within least greatest value = nat_le least (length (toml_text (Some value))) && nat_le (length (toml_text (Some value))) greatest

-- a letter or a digit of ASCII, `-` (45) or `_` (95)
abbrev pub is_label_byte : ℕ → Bool
is_label_byte byte = is_ascii_alphanumeric byte || (byte == 45) || (byte == 95)

-- a text of 1 to 32 such bytes
abbrev pub is_label : List ℕ → Bool
is_label label = nat_le 1 (length label) && nat_le (length label) 32 && list_all is_label_byte label

-- the text is one that can name a check
abbrev pub is_label_text : Data → Bool
is_label_text value = is_label (toml_text (Some value))

-- the list has exactly so many elements, each in this range
abbrev pub has_exactly : ℕ → (Data → Bool) → Data → Bool
has_exactly count in_range value = (length (toml_list (Some value)) == count) && list_all in_range (toml_list (Some value))

-- the list has at most so many elements
abbrev pub has_at_most : ℕ → Data → Bool
has_at_most count value = nat_le (length (toml_list (Some value))) count

-- any value of the kind
abbrev pub is_any_value : Data → Bool
is_any_value value = true

-- a field of a table: its name, whether it has to be there, its kind, and which values of that kind are in its range
pub record Field : Type 0 where
  pub name : List ℕ
  pub required : Bool
  pub kind : Kind
  pub in_range : Data → Bool

-- a field that has to be there, and one that may be absent
abbrev pub required_field : List ℕ → Kind → (Data → Bool) → Field
required_field name kind in_range = record { name = name; required = true; kind = kind; in_range = in_range }

abbrev pub optional_field : List ℕ → Kind → (Data → Bool) → Field
optional_field name kind in_range = record { name = name; required = false; kind = kind; in_range = in_range }

-- a field that has to be there, by a name as it is written
abbrev pub field : String → Kind → (Data → Bool) → Field
field name = required_field (codes name)
