-- Where a file says a version, the field of the version is met.
use Rattle.std.proofs.Common.{◌≡◌, true, Option, Some, None, inl, inr, codes, refl, ℤ, pos, negsuc, is_some, ◌==◌, option_and_then, arith}
use Rattle.std.proofs.lemmas.Bool.{cases_Bool}
use Rattle.std.proofs.lemmas.Bool.Decides.{nat_tests}
use Rattle.duties.specs.Duties.{unless, first}
use Rattle.toml.specs.Data.{Data, Members, get_member, as_integer}
use Rattle.project_file.specs.declared.tables.TableAt.{TableAt}
use Rattle.project_file.specs.declared.versions.Version.{Version}
use Rattle.project_file.specs.declared.versions.Version.TheVariants.{One, Two}
use Rattle.project_file.specs.Fields.{field, number, is_number_within, is_within}
use Rattle.project_file.specs.Tables.{walls_field}
use Rattle.project_file.specs.FieldDuties.{field_duty, field_value_duty}
use Rattle.project_file.specs.Versions.{version_numbered, version_in}

of_number : (z : Option ℤ) (version : Version) → option_and_then version_numbered z ≡ Some version → is_within 1 2 z ≡ true
of_number None version h = cc
of_number (Some (negsuc n)) version h = cc
of_number (Some (pos n)) version h =
    elim (cases_Bool (n == 1)) [
      | inl one ↦ grind (arith, nat_tests)
      | inr other ↦ elim (cases_Bool (n == 2)) [
        | inl two ↦ grind (arith, nat_tests)
        | inr none ↦ let same = rw (other, none) at h in cc
      ]
    ]

some_number : (z : Option ℤ) → is_within 1 2 z ≡ true → is_some z ≡ true
some_number None h = cc
some_number (Some z) h = refl

value_met : (table_at : TableAt) (version : Version) (value : Option Data) → option_and_then version_numbered (option_and_then as_integer value) ≡ Some version → field_value_duty table_at (field "version" number (is_number_within 1 2)) value ≡ None
unfolding unless first
value_met table_at version None h = cc
value_met table_at version (Some d) h =
    let within = of_number (as_integer d) version h in
    let whole = some_number (as_integer d) within in
    rw (whole, within)

pub version_met : (table_at : TableAt) (version : Version) (t : Members) → version_in t ≡ Some version → field_duty table_at t (field "version" number (is_number_within 1 2)) ≡ None
unfolding field_duty
version_met table_at version t h = value_met table_at version (get_member (codes "version") t) h

-- the field of the walls has one name in both versions
pub walls_name : (version : Version) → (walls_field version).name ≡ codes "walls"
walls_name One = refl
walls_name Two = refl
