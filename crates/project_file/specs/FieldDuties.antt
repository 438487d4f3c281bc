-- The duties of a field and of a table of the project file.
use Rattle.std.specs.Prelude.{ℕ, not, if◌then◌else◌, List, [], ◌∷◌, map, filter, Option, Some, None, option_map}
use Rattle.std.specs.List.{list_any}
use Rattle.std.specs.Ordering.{nat_cmp, is_lt}
use Rattle.std.specs.Cmp.Lexicographic.{slice_cmp}
use Rattle.std.specs.Str.{bytes_eq}
use Rattle.duties.specs.Duties.{Duty, unless, first}
use Rattle.toml.specs.Data.{Data, Members, no_members, member, get_member}
use Rattle.project_file.specs.declared.faults.ProjFault.{ProjFault}
use Rattle.project_file.specs.declared.faults.ProjFault.TheVariants as fault
use Rattle.project_file.specs.declared.tables.TableAt.{TableAt}
use Rattle.project_file.specs.Names.{fault_name}
use Rattle.project_file.specs.Fields.{Field, is_kind}
use Rattle.project_file.specs.Tables.{fields_of}

-- the duty of what stands at a field: it is there, it is of the field's kind, and it is in its range
abbrev pub field_value_duty : TableAt → Field → Option Data → Duty ProjFault
field_value_duty table_at f None = unless (not f.required) (fault.Missing (fault_name table_at f.name))
field_value_duty table_at f (Some value) =
    first (unless (is_kind f.kind value) (fault.Kind (fault_name table_at f.name)) ∷ unless (f.in_range value) (fault.Range (fault_name table_at f.name)) ∷ [])

-- the duty of a field of a table
unfoldable pub field_duty : TableAt → Members → Field → Duty ProjFault
field_duty table_at t f = field_value_duty table_at f (get_member f.name t)

-- the keys of a table
abbrev pub member_keys : Members → List (List ℕ)
member_keys no_members = []
member_keys (member key value members) = key ∷ member_keys members

-- a key, or another one that comes before it in the order of bytes
abbrev pub earlier_key : List ℕ → Option (List ℕ) → List ℕ
earlier_key key None = key
earlier_key key (Some other) = if is_lt (slice_cmp nat_cmp other key) then other else key

-- the first of some keys in the order of bytes
abbrev pub first_key : List (List ℕ) → Option (List ℕ)
first_key [] = None
first_key (key ∷ others) = Some (earlier_key key (first_key others))

-- the duty of the keys of a table: the first that is the name of no field is its fault
unfoldable pub keys_duty : TableAt → Members → Duty ProjFault
keys_duty table_at t =
    option_map (λ key. fault.Key (fault_name table_at key)) (first_key (filter (λ key. not (list_any (λ f. bytes_eq key f.name) (fields_of table_at))) (member_keys t)))

-- the duty of some fields of a table, in their order
unfoldable pub fields_duty : TableAt → List Field → Members → Duty ProjFault
fields_duty table_at fields t = first (map (field_duty table_at t) fields)

-- the duty of a table: its keys, and then its fields in their order
unfoldable pub table_duty : TableAt → Members → Duty ProjFault
table_duty table_at t = first (keys_duty table_at t ∷ fields_duty table_at (fields_of table_at) t ∷ [])
