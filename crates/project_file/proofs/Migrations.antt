-- A file of version 1 beside the file of version 2 that stands for it.
use Rattle.std.proofs.Common.{◌≡◌, ℕ, Bool, true, false, not, List, [], ◌∷◌, codes, Option, Some, None, Ok, option_map, option_and_then, is_some, pos, refl, ap, ◌∙◌, sym}
use Rattle.std.specs.List.{list_any}
use Rattle.std.specs.Str.{bytes_eq}
use Rattle.duties.specs.Duties.{unless, first}
use Rattle.duties.proofs.Orders.{all_met, unless_met, unless_holds, this_met, last_decides, each_none, judged_is, judged_ok}
use Rattle.toml.specs.Data.{Data, string, integer, float, boolean, datetime, array, table, Members, get_member, as_integer}
use Rattle.project_file.specs.declared.tables.TableAt.{TableAt}
use Rattle.project_file.specs.declared.tables.TableAt.TheVariants as table_at
use Rattle.project_file.specs.declared.versions.Version.TheVariants.{One, Two}
use Rattle.project_file.specs.Versions.{version_numbered, version_in}
use Rattle.project_file.specs.Fields.{Field, field, optional_field, table as tables, list, is_any_value, has_at_most, toml_number, toml_table, toml_list}
use Rattle.project_file.specs.Tables.{top_fields, walls_field, is_small, fields_of}
use Rattle.project_file.specs.FieldDuties.{field_duty, field_value_duty, fields_duty, keys_duty, table_duty, member_keys}
use Rattle.project_file.specs.Projects.{project_duties, project_in, room_in, room_of, four_numbers}
use Rattle.project_file.specs.Migration.{with_value, four_times, migrated_room, migrated, MigrationKeepsTheProject}
use Rattle.project_file.proofs.KnownVersions.{version_met}
use Rattle.project_file.proofs.Files.{any_front}
use Rattle.project_file.proofs.Members.{changed, kept, keys_kept, none_of_fewer, absent}

-- a value that is met in one table is met in another
met_elsewhere : (a b : TableAt) (f : Field) (value : Option Data) → field_value_duty a f value ≡ None → field_value_duty b f value ≡ None
met_elsewhere a b f None h = unless_holds _ _ (unless_met _ _ h)
met_elsewhere a b f (Some value) h =
    let parts = all_met _ _ h in
    this_met _ _ (unless_holds _ _ (unless_met _ _ parts.0)) ∙ (last_decides _ ∙ unless_holds _ _ (unless_met _ _ (all_met _ _ parts.1).0))

field_met_elsewhere : (a b : TableAt) (f : Field) (s t : Members) → get_member f.name t ≡ get_member f.name s → field_duty a s f ≡ None → field_duty b t f ≡ None
unfolding field_duty
field_met_elsewhere a b f s t same h = rw same (met_elsewhere a b f (get_member f.name s) h)

no_key : {A B : Type 0} (f : A → B) (key : Option A) → option_map f key ≡ None → key ≡ None
no_key f None h = refl
no_key f (Some key) h = cc

is_known : (b : Bool) → not b ≡ false → b ≡ true
is_known true h = refl
is_known false h = cc

-- whether a key is no field of a table
abbrev is_unknown : TableAt → List ℕ → Bool
is_unknown table_at key = not (list_any (λ f. bytes_eq key f.name) (fields_of table_at))

keys_met_elsewhere : (a b : TableAt) (s t : Members) → member_keys t ≡ member_keys s → ((key : List ℕ) → is_unknown a key ≡ false → is_unknown b key ≡ false) → keys_duty a s ≡ None → keys_duty b t ≡ None
unfolding keys_duty
keys_met_elsewhere a b s t same fewer h =
    rw (same, none_of_fewer (is_unknown a) (is_unknown b) fewer (member_keys s) (no_key _ _ h)) refl

-- the walls one by one
walls_met : (value : Option Data) → field_value_duty (table_at.Room One) (walls_field One) value ≡ None → field_value_duty (table_at.Room Two) (walls_field Two) (option_map four_times value) ≡ None
unfolding unless first
walls_met None h = cc
walls_met (Some value) h =
    let parts = all_met _ _ h in
    let number : is_some (as_integer value) ≡ true = unless_met _ _ parts.0 in
    let small : is_small value ≡ true = unless_met _ _ (all_met _ _ parts.1).0 in
    rw (number, small) refl

walls_said : (value : Option Data) → four_numbers (toml_list (option_map four_times value)) ≡ toml_number value ∷ toml_number value ∷ toml_number value ∷ toml_number value ∷ []
walls_said None = refl
walls_said (Some value) = refl

module _ (r : Members) where
  abbrev new_room : Members
  new_room = with_value (codes "walls") four_times r

  length_kept : (key : List ℕ) → bytes_eq (codes "walls") key ≡ false → get_member key new_room ≡ get_member key r
  length_kept key apart = kept (codes "walls") four_times key apart r

  walls_changed : get_member (codes "walls") new_room ≡ option_map four_times (get_member (codes "walls") r)
  walls_changed = changed (codes "walls") four_times r

  walls_field_met : field_duty (table_at.Room One) r (walls_field One) ≡ None → field_duty (table_at.Room Two) new_room (walls_field Two) ≡ None
  unfolding field_duty
  walls_field_met h = rw walls_changed (walls_met (get_member (codes "walls") r) h)

  room_field_met : (f : Field) → bytes_eq (codes "walls") f.name ≡ false → field_duty (table_at.Room One) r f ≡ None → field_duty (table_at.Room Two) new_room f ≡ None
  room_field_met f apart h = field_met_elsewhere (table_at.Room One) (table_at.Room Two) f r new_room (length_kept f.name apart) h

  room_met : table_duty (table_at.Room One) r ≡ None → table_duty (table_at.Room Two) new_room ≡ None
  unfolding table_duty fields_duty
  room_met h =
      let parts = all_met _ _ h in
      let width = all_met _ _ (sym (last_decides _) ∙ parts.1) in
      let depth = all_met _ _ width.1 in
      let height = all_met _ _ depth.1 in
      let counts = all_met _ _ height.1 in
      let floor = all_met _ _ counts.1 in
      let ceiling = all_met _ _ floor.1 in
      let walls = all_met _ _ ceiling.1 in
      this_met _ _ (keys_met_elsewhere (table_at.Room One) (table_at.Room Two) r new_room (keys_kept (codes "walls") four_times r) (λ key e. e) parts.0)
      ∙ (last_decides _
      ∙ (this_met _ _ (room_field_met _ refl width.0)
      ∙ (this_met _ _ (room_field_met _ refl depth.0)
      ∙ (this_met _ _ (room_field_met _ refl height.0)
      ∙ (this_met _ _ (room_field_met _ refl counts.0)
      ∙ (this_met _ _ (room_field_met _ refl floor.0)
      ∙ (this_met _ _ (room_field_met _ refl ceiling.0)
      ∙ (last_decides _ ∙ walls_field_met walls.0))))))))

  same_room : room_of Two new_room ≡ room_of One r
  unfolding room_of
  same_room =
      rw (length_kept (codes "width") refl, length_kept (codes "depth") refl, length_kept (codes "height") refl, length_kept (codes "counts") refl, length_kept (codes "floor") refl, length_kept (codes "ceiling") refl, walls_changed, walls_said (get_member (codes "walls") r))
      refl

room_table : (value : Option Data) → toml_table (option_map migrated_room value) ≡ with_value (codes "walls") four_times (toml_table value)
room_table None = refl
room_table (Some (string s)) = refl
room_table (Some (integer z)) = refl
room_table (Some (float x)) = refl
room_table (Some (boolean b)) = refl
room_table (Some (datetime d)) = refl
room_table (Some (array items)) = refl
room_table (Some (table t)) = refl

room_value_met : (value : Option Data) → field_value_duty (table_at.Top One) (field "room" tables is_any_value) value ≡ None → field_value_duty (table_at.Top Two) (field "room" tables is_any_value) (option_map migrated_room value) ≡ None
unfolding unless first
room_value_met None h = cc
room_value_met (Some (string s)) h = cc
room_value_met (Some (integer z)) h = cc
room_value_met (Some (float x)) h = cc
room_value_met (Some (boolean b)) h = cc
room_value_met (Some (datetime d)) h = cc
room_value_met (Some (array items)) h = cc
room_value_met (Some (table t)) h = refl

says_two : (value : Option Data) → option_and_then version_numbered (option_and_then as_integer value) ≡ Some One → option_and_then version_numbered (option_and_then as_integer (option_map (λ _. integer (pos 2)) value)) ≡ Some Two
says_two None h = cc
says_two (Some value) h = refl

module _ (t : Members) (one : version_in t ≡ Some One) where
  abbrev with_room : Members
  with_room = with_value (codes "room") migrated_room t

  all_kept : (key : List ℕ) → bytes_eq (codes "version") key ≡ false → bytes_eq (codes "room") key ≡ false → get_member key (migrated t) ≡ get_member key t
  all_kept key version room = kept (codes "version") (λ _. integer (pos 2)) key version with_room ∙ kept (codes "room") migrated_room key room t

  room_changed : get_member (codes "room") (migrated t) ≡ option_map migrated_room (get_member (codes "room") t)
  room_changed = kept (codes "version") (λ _. integer (pos 2)) (codes "room") refl with_room ∙ changed (codes "room") migrated_room t

  version_changed : get_member (codes "version") (migrated t) ≡ option_map (λ _. integer (pos 2)) (get_member (codes "version") t)
  version_changed = changed (codes "version") (λ _. integer (pos 2)) with_room ∙ ap (option_map (λ _. integer (pos 2))) (kept (codes "room") migrated_room (codes "version") refl t)

  two : version_in (migrated t) ≡ Some Two
  two = rw version_changed (says_two (get_member (codes "version") t) one)

  keys_stay : member_keys (migrated t) ≡ member_keys t
  keys_stay = keys_kept (codes "version") (λ _. integer (pos 2)) with_room ∙ keys_kept (codes "room") migrated_room t

  room_changed_in : room_in (migrated t) ≡ with_value (codes "walls") four_times (room_in t)
  room_changed_in = rw room_changed (room_table (get_member (codes "room") t))

  no_regions : keys_duty (table_at.Top One) t ≡ None → get_member (codes "region") (migrated t) ≡ None
  unfolding keys_duty
  no_regions h = all_kept (codes "region") refl refl ∙ absent (is_unknown (table_at.Top One)) (codes "region") refl t (no_key _ _ h)

  known_in_both : (key : List ℕ) → is_unknown (table_at.Top One) key ≡ false → is_unknown (table_at.Top Two) key ≡ false
  known_in_both key h =
      ap not (any_front (λ (f : Field). bytes_eq key f.name) (top_fields One) (optional_field (codes "region") (list tables) (has_at_most 16) ∷ []) (is_known _ h))

  room_value_stays : field_duty (table_at.Top One) t (field "room" tables is_any_value) ≡ None → field_duty (table_at.Top Two) (migrated t) (field "room" tables is_any_value) ≡ None
  unfolding field_duty
  room_value_stays h = rw room_changed (room_value_met (get_member (codes "room") t) h)

  top_field_met : (f : Field) → bytes_eq (codes "version") f.name ≡ false → bytes_eq (codes "room") f.name ≡ false → field_duty (table_at.Top One) t f ≡ None → field_duty (table_at.Top Two) (migrated t) f ≡ None
  top_field_met f version room h = field_met_elsewhere (table_at.Top One) (table_at.Top Two) f t (migrated t) (all_kept f.name version room) h

  regions_met : get_member (codes "region") (migrated t) ≡ None → field_duty (table_at.Top Two) (migrated t) (optional_field (codes "region") (list tables) (has_at_most 16)) ≡ None
  unfolding field_duty unless
  regions_met none = rw none refl

  top_met : table_duty (table_at.Top One) t ≡ None → table_duty (table_at.Top Two) (migrated t) ≡ None
  unfolding table_duty fields_duty
  top_met h =
      let parts = all_met _ _ h in
      let version = all_met _ _ (sym (last_decides _) ∙ parts.1) in
      let room = all_met _ _ version.1 in
      let solver = all_met _ _ room.1 in
      let luminaires = all_met _ _ solver.1 in
      let checks = all_met _ _ luminaires.1 in
      this_met _ _ (keys_met_elsewhere (table_at.Top One) (table_at.Top Two) t (migrated t) keys_stay known_in_both parts.0)
      ∙ (last_decides _
      ∙ (this_met _ _ (version_met (table_at.Top Two) Two (migrated t) two)
      ∙ (this_met _ _ (room_value_stays room.0)
      ∙ (this_met _ _ (top_field_met _ refl refl solver.0)
      ∙ (this_met _ _ (top_field_met _ refl refl luminaires.0)
      ∙ (this_met _ _ (top_field_met _ refl refl checks.0)
      ∙ (last_decides _ ∙ regions_met (no_regions parts.0))))))))

  top_keys_met : table_duty (table_at.Top One) t ≡ None → keys_duty (table_at.Top One) t ≡ None
  unfolding table_duty
  top_keys_met h = (all_met _ _ h).0

  all_duties_met : first (project_duties One t) ≡ None → first (project_duties Two (migrated t)) ≡ None
  unfolding project_duties
  all_duties_met h =
      let top = all_met _ _ h in
      let room = all_met _ _ top.1 in
      let solver = all_met _ _ room.1 in
      let luminaires = all_met _ _ solver.1 in
      let checks = all_met _ _ luminaires.1 in
      rw (room_changed_in, all_kept (codes "solver") refl refl, all_kept (codes "luminaire") refl refl, all_kept (codes "check") refl refl, no_regions (top_keys_met top.0))
      (this_met _ _ (top_met top.0)
      ∙ (this_met _ _ (room_met (room_in t) room.0)
      ∙ (this_met _ _ solver.0
      ∙ (this_met _ _ luminaires.0
      ∙ (this_met _ _ checks.0
      ∙ (last_decides _ ∙ each_none _))))))

  same_project_in : table_duty (table_at.Top One) t ≡ None → project_in Two (migrated t) ≡ project_in One t
  same_project_in h =
      rw (room_changed_in, same_room (room_in t), all_kept (codes "solver") refl refl, all_kept (codes "luminaire") refl refl, all_kept (codes "check") refl refl, no_regions (top_keys_met h))
      refl

  top_is_met : first (project_duties One t) ≡ None → table_duty (table_at.Top One) t ≡ None
  unfolding project_duties
  top_is_met h = (all_met _ _ h).0

pub same_project : MigrationKeepsTheProject
same_project t project one h =
    let said = judged_is (project_duties One t) (project_in One t) project (rw one at h) in
    let same : project_in Two (migrated t) ≡ project = same_project_in t one (top_is_met t one said.1) ∙ sym said.0 in
    (two t one, rw (two t one) (judged_ok (project_duties Two (migrated t)) (project_in Two (migrated t)) (all_duties_met t one said.1) ∙ ap Ok same))
