-- What `clap` finds in words, read one at a time.
use Rattle.std.proofs.Common.{◌≡◌, ◌∙◌, ℕ, ◌&&◌, ◌==◌, cond, List, [], ◌∷◌, Bool, true, false, Option, Some, None, is_some, option_map, codes, refl, sym, subst, ap}
use Rattle.std.specs.Prelude.{fold}
use Rattle.clap.specs.Walk.{Held, Row, Waiting, Walk, idle, option, finished, first_of, has_row, nothing_held, one_of, settled, settled_rows, used, walked, with_default}
use Rattle.clap.specs.Values.{bool_text}
use Rattle.clap.specs.Simple.{built, matches_of}
use Rattle.clap.specs.Faults.{check_fault, defaults_fault, fault_of, settle_fault, turn_fault, use_fault, walk_fault}
use Rattle.clap.specs.Kinds.{Kinds as Faults, or_else}
use Rattle.clap.proofs.FaultLemmas.{leaf_fault}
use Rattle.clap.proofs.OnLiterals.{clap_on_literals}
use Rattle.clap.specs.declared.error.kind.ErrorKind.TheVariants as kind
use Rattle.run_words.proofs.Clap.{app, shape, rules, project, shooters, csv}
use Rattle.run_words.proofs.WordKinds.{Text, flag, setting, operand, Kinds, none, more, Said, ends, reading, csv_word, shooters_word, at_operand}
use Rattle.run_words.proofs.ClapRows.{first_none, both_none, some_fault, second_none, row, has_row-find, Rows, project_used, shooters_used, csv_used, defaults_faultless, finished_is, defaulted, complete, wanting, table_text, value_text, file_text}

-- ---- where the walk stands

abbrev held : List Row → Option (Text × List Text) → Held
held rows pending = record { rows = rows; pending = pending; skip = 0 }

abbrev at : List Row → Option (Text × List Text) → Waiting → ℕ → Walk
at rows pending waiting position = record { held = held rows pending; waiting = waiting; position = position; is_trailing = false; stopped = None }

-- the faults of words and of their end, and the rows at their end
abbrev end_faults : Held → Faults
end_faults h = or_else (settle_fault rules false h) (or_else (defaults_fault (settled rules h).rows rules) (check_fault shape (finished rules h) false))

abbrev faults_from : Walk → List Text → Faults
faults_from w words = or_else (walk_fault shape [] w words) (end_faults (fold (walked rules []) w words).held)

abbrev rows_from : Walk → List Text → List Row
rows_from w words = finished rules (fold (walked rules []) w words).held

-- `clap` finds what words say, and refuses words that say nothing
abbrev pub Finds : Option Said → Faults → List Row → Type 0
Finds None faults rows = faults ≡ [] → ⊥
Finds (Some said) faults rows =
    (faults ≡ []) × (first_of (codes "project") rows ≡ Some said.project) × (first_of (codes "shooters") rows ≡ said.shooters)
    × (one_of (codes "csv") rows ≡ Some (bool_text said.csv))

-- the walk goes on behind a word without a fault
on : (w after : Walk) (word : Text) (words : List Text) (said : Option Said) → turn_fault shape [] w word ≡ [] → walked rules [] w word ≡ after
    → Finds said (faults_from after words) (rows_from after words) → Finds said (faults_from w (word ∷ words)) (rows_from w (word ∷ words))
unfolding walk_fault
on w after word words said faultless is found =
    subst (λ (k : Faults). Finds said (or_else (or_else k (walk_fault shape [] (walked rules [] w word) words)) (end_faults (fold (walked rules []) (walked rules [] w word) words).held)) (finished rules (fold (walked rules []) (walked rules [] w word) words).held)) (sym faultless)
    (subst (λ (v : Walk). Finds said (faults_from v words) (rows_from v words)) (sym is) found)

-- a word with a fault
stops : (w : Walk) (word : Text) (words : List Text) → (turn_fault shape [] w word ≡ [] → ⊥) → faults_from w (word ∷ words) ≡ [] → ⊥
unfolding walk_fault
stops w word words faulty e = faulty (first_none _ _ (first_none _ _ e))

-- ---- one word

and_false : (b : Bool) → (b && false) ≡ false
and_false true = refl
and_false false = refl

abbrev settling : List Row → Option (Text × List Text) → Faults
settling rows pending = settle_fault rules false (held rows pending)

abbrev value_awaited : Option (Text × List Text)
value_awaited = Some (codes "shooters", [])

module _ (rows : List Row) (pending : Option (Text × List Text)) (position : ℕ) where
  flag_walked : walked rules [] (at rows pending idle position) csv_word ≡ at (used csv [] (settled_rows rules pending rows)) None idle position
  unfolding clap_on_literals
  flag_walked = refl

  flag_turn : turn_fault shape [] (at rows pending idle position) csv_word ≡ or_else (or_else (settling rows pending) (use_fault false csv [] (settled_rows rules pending rows))) []
  unfolding clap_on_literals
  flag_turn = refl

  setting_walked : walked rules [] (at rows pending idle position) shooters_word ≡ at (settled_rows rules pending rows) value_awaited (option (codes "shooters")) position
  unfolding clap_on_literals
  setting_walked = refl

  setting_turn : turn_fault shape [] (at rows pending idle position) shooters_word ≡ or_else (settling rows pending) []
  unfolding clap_on_literals
  setting_turn = refl

module _ (rows : List Row) (pending : Option (Text × List Text)) (x : ℕ) (xs : Text) (plain : (x == 45) ≡ false) where
  operand_walked : walked rules [] (at rows pending idle 1) (x ∷ xs) ≡ at (settled_rows rules pending rows) (Some (codes "project", (x ∷ xs) ∷ [])) idle 2
  unfolding clap_on_literals
  operand_walked = rw (plain, plain, and_false) refl

  operand_turn : turn_fault shape [] (at rows pending idle 1) (x ∷ xs) ≡ settling rows pending
  unfolding clap_on_literals
  operand_turn = rw (plain, plain, and_false) refl

  operand_strays : turn_fault shape [] (at rows pending idle 2) (x ∷ xs) ≡ kind.UnknownArgument ∷ []
  unfolding clap_on_literals
  operand_strays = rw (plain, plain) refl

module _ (rows : List Row) (position : ℕ) where
  abbrev awaiting : Walk
  awaiting = at rows value_awaited (option (codes "shooters")) position

  flag_awaited : turn_fault shape [] awaiting csv_word ≡ kind.InvalidValue ∷ []
  unfolding clap_on_literals
  flag_awaited = refl

  setting_awaited : turn_fault shape [] awaiting shooters_word ≡ kind.InvalidValue ∷ []
  unfolding clap_on_literals
  setting_awaited = refl

  value_turn : (x : ℕ) (xs : Text) → (x == 45) ≡ false → turn_fault shape [] awaiting (x ∷ xs) ≡ []
  unfolding clap_on_literals
  value_turn x xs plain = rw (plain, plain) refl

  value_walked : (x : ℕ) (xs : Text) → (x == 45) ≡ false → walked rules [] awaiting (x ∷ xs) ≡ at rows (Some (codes "shooters", (x ∷ xs) ∷ [])) idle position
  unfolding clap_on_literals
  value_walked x xs plain = rw (plain, plain) refl

-- ---- all words

-- the walk between two words that are no option and its value
pub record Ready (rows : List Row) (pending : Option (Text × List Text)) (file value : Option Text) (table : Bool) : Type 0 where
  pub settles : settling rows pending ≡ []
  pub known : Rows (settled_rows rules pending rows) file value table

ends_there : (rows : List Row) (pending : Option (Text × List Text)) (position : ℕ) (file value : Option Text) (table : Bool) → Ready rows pending file value table
    → Finds (ends file value table false) (faults_from (at rows pending idle position) []) (rows_from (at rows pending idle position) [])
unfolding clap_on_literals
ends_there rows pending position None value table h =
    let now = settled_rows rules pending rows in
    let last = defaulted now None value table h.known in
    λ e.
    let checked : check_fault shape (with_default (with_default (with_default now project) shooters) csv) false ≡ [] = second_none (defaults_fault now rules) _ (second_none (settling rows pending) _ e) in
    some_fault _ [] (sym (ap (λ (l : List Row). check_fault shape l false) (finished_is now) ∙ wanting (with_default now csv) last.project) ∙ checked)
ends_there rows pending position (Some file) value table h =
    let now = settled_rows rules pending rows in
    let last = defaulted now (Some file) value table h.known in
    let checked : check_fault shape (with_default (with_default (with_default now project) shooters) csv) false ≡ [] = ap (λ (l : List Row). check_fault shape l false) (finished_is now) ∙ complete (with_default now csv) file last.project in (
      both_none (settling rows pending) _ h.settles (both_none (defaults_fault now rules) _ (defaults_faultless now) checked),
      ap (first_of (codes "project")) (finished_is now) ∙ file_text file (with_default now csv) last.project,
      ap (first_of (codes "shooters")) (finished_is now) ∙ value_text value (with_default now csv) last.shooters,
      ap (one_of (codes "csv")) (finished_is now) ∙ table_text table (with_default now csv) last.csv,
    )

abbrev position_of : Option Text → ℕ
position_of None = 1
position_of (Some file) = 2

-- where the walk stands behind words that had such a file, such a value, and perhaps the flag
data Stands : Walk → Option Text → Option Text → Bool → Bool → Type 0 where
  between : {rows : List Row} {pending : Option (Text × List Text)} {file value : Option Text} {table : Bool}
      → Ready rows pending file value table → Stands (at rows pending idle (position_of file)) file value table false
  behind : {rows : List Row} {file : Option Text} {table : Bool} → Rows rows file None table → Stands (awaiting rows (position_of file)) file None table true

module _ (rows : List Row) (file value : Option Text) (table : Bool) (h : Rows rows file value table) where
  has_project : has_row (codes "project") rows ≡ is_some file
  has_project = has_row-find (codes "project") rows ∙ ap (λ (o : Option Row). is_some o) h.project ∙ go file
    where
      go : (o : Option Text) → is_some (option_map (row (codes "project")) o) ≡ is_some o
      go None = refl
      go (Some x) = refl

  has_shooters : has_row (codes "shooters") rows ≡ is_some value
  has_shooters = has_row-find (codes "shooters") rows ∙ ap (λ (o : Option Row). is_some o) h.shooters ∙ go value
    where
      go : (o : Option Text) → is_some (option_map (row (codes "shooters")) o) ≡ is_some o
      go None = refl
      go (Some x) = refl

  has_csv : has_row (codes "csv") rows ≡ table
  has_csv = has_row-find (codes "csv") rows ∙ ap (λ (o : Option Row). is_some o) h.csv ∙ go table
    where
      go : (b : Bool) → is_some (cond b (Some (row (codes "csv") (codes "true"))) None) ≡ b
      go true = refl
      go false = refl

-- one use of each argument
project_once : (rows : List Row) (word : Text) → has_row (codes "project") rows ≡ false → use_fault false project (word ∷ []) rows ≡ []
project_once rows word e = rw e refl

shooters_once : (rows : List Row) (word : Text) → has_row (codes "shooters") rows ≡ false → use_fault false shooters (word ∷ []) rows ≡ []
shooters_once rows word e = rw e refl

shooters_twice : (rows : List Row) (word : Text) → has_row (codes "shooters") rows ≡ true → use_fault false shooters (word ∷ []) rows ≡ kind.ArgumentConflict ∷ []
shooters_twice rows word e = rw e refl

csv_once : (rows : List Row) → has_row (codes "csv") rows ≡ false → use_fault false csv [] rows ≡ []
csv_once rows e = rw e refl

csv_twice : (rows : List Row) → has_row (codes "csv") rows ≡ true → use_fault false csv [] rows ≡ kind.ArgumentConflict ∷ []
csv_twice rows e = rw e refl

-- no words mend a use that fails
spoiled : (rows : List Row) (pending : Option (Text × List Text)) (file : Option Text) (words : List Text) → Kinds words → (settling rows pending ≡ [] → ⊥)
    → faults_from (at rows pending idle (position_of file)) words ≡ [] → ⊥
unfolding walk_fault
spoiled rows pending file [] none fails e = fails (first_none (settling rows pending) _ e)
spoiled rows pending file (word ∷ words) (more flag others) fails e =
    stops (at rows pending idle (position_of file)) csv_word words (λ f. fails (first_none (settling rows pending) _ (first_none _ _ (sym (flag_turn rows pending (position_of file)) ∙ f)))) e
spoiled rows pending file (word ∷ words) (more setting others) fails e =
    stops (at rows pending idle (position_of file)) shooters_word words (λ f. fails (first_none (settling rows pending) _ (sym (setting_turn rows pending (position_of file)) ∙ f))) e
spoiled rows pending None (word ∷ words) (more (operand x xs plain is) others) fails e =
    stops (at rows pending idle 1) (x ∷ xs) words (λ f. fails (sym (operand_turn rows pending x xs plain) ∙ f)) e
spoiled rows pending (Some file) (word ∷ words) (more (operand x xs plain is) others) fails e =
    stops (at rows pending idle 2) (x ∷ xs) words (λ f. some_fault kind.UnknownArgument [] (sym (operand_strays rows pending x xs plain) ∙ f)) e

-- nor an option that stands twice
spoiled_twice : (rows : List Row) (file : Option Text) (words : List Text) → Kinds words → has_row (codes "shooters") rows ≡ true
    → faults_from (awaiting rows (position_of file)) words ≡ [] → ⊥
unfolding walk_fault
spoiled_twice rows file [] none twice e = some_fault kind.InvalidValue [] e
spoiled_twice rows file (word ∷ words) (more flag others) twice e =
    stops (awaiting rows (position_of file)) csv_word words (λ f. some_fault kind.InvalidValue [] (sym (flag_awaited rows (position_of file)) ∙ f)) e
spoiled_twice rows file (word ∷ words) (more setting others) twice e =
    stops (awaiting rows (position_of file)) shooters_word words (λ f. some_fault kind.InvalidValue [] (sym (setting_awaited rows (position_of file)) ∙ f)) e
spoiled_twice rows file (word ∷ words) (more (operand x xs plain is) others) twice e =
    on (awaiting rows (position_of file)) _ (x ∷ xs) words None (value_turn rows (position_of file) x xs plain) (value_walked rows (position_of file) x xs plain)
    (spoiled rows (Some (codes "shooters", (x ∷ xs) ∷ [])) file words others (λ f. some_fault kind.ArgumentConflict [] (sym (shooters_twice rows (x ∷ xs) twice) ∙ f))) e

finds : (words : List Text) → Kinds words → (w : Walk) (file value : Option Text) (table waits : Bool) → Stands w file value table waits
    → Finds (reading file value table waits words) (faults_from w words) (rows_from w words)
unfolding walk_fault
finds [] none w file value table waits (between {rows} {pending} h) = ends_there rows pending (position_of file) file value table h
finds [] none w None value table waits (behind {rows} h) = λ e. some_fault kind.InvalidValue [] e
finds [] none w (Some file) value table waits (behind {rows} h) = λ e. some_fault kind.InvalidValue [] e
finds (word ∷ words) (more flag others) w file value true waits (between {rows} {pending} h) =
    let now = settled_rows rules pending rows in
    stops (at rows pending idle (position_of file)) csv_word words (λ f.
    some_fault kind.ArgumentConflict [] (sym (csv_twice now (has_csv now file value true h.known)) ∙ second_none (settling rows pending) _ (first_none _ _ (sym (flag_turn rows pending (position_of file)) ∙ f))))
finds (word ∷ words) (more flag others) w file value false waits (between {rows} {pending} h) =
    let now = settled_rows rules pending rows in
    let fits = both_none _ [] (both_none (settling rows pending) _ h.settles (csv_once now (has_csv now file value false h.known))) refl in
    on (at rows pending idle (position_of file)) _ csv_word words (reading file value true false words) (flag_turn rows pending (position_of file) ∙ fits) (flag_walked rows pending (position_of file))
    (finds words others _ file value true false (between (record { settles = refl; known = csv_used now file value h.known })))
finds (word ∷ words) (more flag others) w file value true waits (behind {rows} h) =
    stops (awaiting rows (position_of file)) csv_word words (λ f. some_fault kind.InvalidValue [] (sym (flag_awaited rows (position_of file)) ∙ f))
finds (word ∷ words) (more flag others) w file value false waits (behind {rows} h) =
    stops (awaiting rows (position_of file)) csv_word words (λ f. some_fault kind.InvalidValue [] (sym (flag_awaited rows (position_of file)) ∙ f))
finds (word ∷ words) (more setting others) w file (Some value) table waits (between {rows} {pending} h) =
    let now = settled_rows rules pending rows in
    on (at rows pending idle (position_of file)) _ shooters_word words None (setting_turn rows pending (position_of file) ∙ both_none (settling rows pending) [] h.settles refl) (setting_walked rows pending (position_of file))
    (spoiled_twice now file words others (has_shooters now file (Some value) table h.known))
finds (word ∷ words) (more setting others) w file None table waits (between {rows} {pending} h) =
    let now = settled_rows rules pending rows in
    on (at rows pending idle (position_of file)) _ shooters_word words (reading file None table true words) (setting_turn rows pending (position_of file) ∙ both_none (settling rows pending) [] h.settles refl) (setting_walked rows pending (position_of file))
    (finds words others _ file None table true (behind h.known))
finds (word ∷ words) (more setting others) w file value table waits (behind {rows} h) =
    stops (awaiting rows (position_of file)) shooters_word words (λ f. some_fault kind.InvalidValue [] (sym (setting_awaited rows (position_of file)) ∙ f))
finds (word ∷ words) (more (operand x xs plain is) others) w (Some file) value table waits (between {rows} {pending} h) =
    subst (λ (o : Option Said). Finds o (faults_from (at rows pending idle 2) ((x ∷ xs) ∷ words)) (rows_from (at rows pending idle 2) ((x ∷ xs) ∷ words))) (sym (at_operand (Some file) value table false words x xs plain))
    (stops (at rows pending idle 2) (x ∷ xs) words (λ f. some_fault kind.UnknownArgument [] (sym (operand_strays rows pending x xs plain) ∙ f)))
finds (word ∷ words) (more (operand x xs plain is) others) w None value table waits (between {rows} {pending} h) =
    let now = settled_rows rules pending rows in
    subst (λ (o : Option Said). Finds o (faults_from (at rows pending idle 1) ((x ∷ xs) ∷ words)) (rows_from (at rows pending idle 1) ((x ∷ xs) ∷ words))) (sym (at_operand None value table false words x xs plain))
    (on (at rows pending idle 1) _ (x ∷ xs) words (reading (Some (x ∷ xs)) value table false words) (operand_turn rows pending x xs plain ∙ h.settles) (operand_walked rows pending x xs plain)
    (finds words others _ (Some (x ∷ xs)) value table false
    (between (record { settles = project_once now (x ∷ xs) (has_project now None value table h.known); known = project_used now (x ∷ xs) value table h.known }))))
finds (word ∷ words) (more (operand x xs plain is) others) w file value table waits (behind {rows} h) =
    subst (λ (o : Option Said). Finds o (faults_from (awaiting rows (position_of file)) ((x ∷ xs) ∷ words)) (rows_from (awaiting rows (position_of file)) ((x ∷ xs) ∷ words))) (sym (at_operand file None table true words x xs plain))
    (on (awaiting rows (position_of file)) _ (x ∷ xs) words (reading file (Some (x ∷ xs)) table false words) (value_turn rows (position_of file) x xs plain) (value_walked rows (position_of file) x xs plain)
    (finds words others _ file (Some (x ∷ xs)) table false
    (between (record { settles = shooters_once rows (x ∷ xs) (has_shooters rows file None table h); known = shooters_used rows file (x ∷ xs) table h }))))

-- what `clap` finds behind the keyword
pub clap_finds : (keyword : Text) (words : List Text) → Kinds words → Finds (reading None None false false words) (fault_of app (keyword ∷ words)) (matches_of app (keyword ∷ words))
unfolding walk_fault
clap_finds keyword words kinds =
    subst (λ (faults : Faults). Finds (reading None None false false words) faults (matches_of app (keyword ∷ words))) (sym (leaf_fault (built app) nothing_held words refl))
    (finds words kinds (at [] None idle 1) None None false false (between (record { settles = refl; known = record { project = refl; shooters = refl; csv = refl } })))
