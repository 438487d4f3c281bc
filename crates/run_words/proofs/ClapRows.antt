-- The faults and the rows that `clap` holds when it reads the words of `run`.
use Rattle.std.proofs.Common.{◌≡◌, ◌∙◌, ◌||◌, cond, List, [], ◌∷◌, ◌++◌, Bool, true, false, Option, Some, None, is_some, option_map, codes, refl, sym, subst, ap, true≢false, append-nil}
use Rattle.std.specs.Prelude.{find}
use Rattle.std.specs.Str.{bytes_eq}
use Rattle.clap.specs.Walk.{Row, at_row, first_of, has_row, more_values, one_of, used, with_default, with_values, without}
use Rattle.clap.specs.Values.{bool_text}
use Rattle.clap.specs.Faults.{check_fault, defaults_fault}
use Rattle.clap.specs.Kinds.{Kinds as Faults, or_else}
use Rattle.clap.proofs.OnLiterals.{clap_on_literals}
use Rattle.clap.specs.declared.error.kind.ErrorKind.TheVariants as kind
use Rattle.clap.specs.declared.builder.value_parser.Reading.TheVariants as how
use Rattle.clap.specs.declared.parser.matches.ValueSource.TheVariants as source
use Rattle.run_words.proofs.Clap.{shape, rules, project, shooters, csv}
use Rattle.run_words.proofs.WordKinds.{Text}

-- ---- faults

pub first_none : (a b : Faults) → or_else a b ≡ [] → a ≡ []
first_none [] b e = refl
first_none (k ∷ ks) b e = e

pub both_none : (a b : Faults) → a ≡ [] → b ≡ [] → or_else a b ≡ []
both_none a b e f = subst (λ x. or_else x b ≡ []) (sym e) f

pub some_fault : (k : _) (ks : Faults) → k ∷ ks ≡ [] → ⊥
some_fault k ks e = cc

pub second_none : (a b : Faults) → or_else a b ≡ [] → b ≡ []
second_none [] b e = e
second_none (k ∷ ks) b e = absurd (some_fault k ks e)

-- ---- rows

abbrev pub named : Text → Row → Bool
named id r = bytes_eq r.id id

-- a row of the words
abbrev pub row : Text → Text → Row
row id value = record { id = id; values = value ∷ []; count = None; source = Some source.CommandLine; reading = how.AsWritten }

-- a row of an argument's own value
abbrev pub default_row : Text → Text → Row
default_row id value = record { id = id; values = value ∷ []; count = None; source = Some source.DefaultValue; reading = how.AsWritten }

pub some≢none : {X : Type 0} (x : X) → Some x ≡ None → ⊥
some≢none x e = true≢false (ap (λ o. is_some o) e)

pub has_row-find : (id : Text) (rows : List Row) → has_row id rows ≡ is_some (find (named id) rows)
has_row-find id [] = refl
has_row-find id (r ∷ rs) = go (named id r) (has_row-find id rs)
  where
    go : (b : Bool) → has_row id rs ≡ is_some (find (named id) rs) → (b || has_row id rs) ≡ is_some (cond b (Some r) (find (named id) rs))
    go true e = refl
    go false e = e

-- a row that isn't there is added at the end
pub at_none : (id : Text) (change : Row → List Row) (missing rows : List Row) → find (named id) rows ≡ None → at_row id change missing rows ≡ rows ++ missing
at_none id change missing [] e = refl
at_none id change missing (r ∷ rs) e = go (named id r) e (at_none id change missing rs)
  where
    go : (b : Bool) → cond b (Some r) (find (named id) rs) ≡ None → (find (named id) rs ≡ None → at_row id change missing rs ≡ rs ++ missing)
        → cond b (change r ++ rs) (r ∷ at_row id change missing rs) ≡ r ∷ (rs ++ missing)
    go true f rest = absurd (some≢none r f)
    go false f rest = ap (λ l. r ∷ l) (rest f)

pub without_none : (id : Text) (rows : List Row) → find (named id) rows ≡ None → without id rows ≡ rows
without_none id rows e = at_none id (λ _. []) [] rows e ∙ append-nil rows

pub find_new : (id : Text) (rows : List Row) (y : Row) → find (named id) rows ≡ None → named id y ≡ true → find (named id) (rows ++ y ∷ []) ≡ Some y
find_new id [] y e is = rw is refl
find_new id (r ∷ rs) y e is = go (named id r) e (λ f. find_new id rs y f is)
  where
    go : (b : Bool) → cond b (Some r) (find (named id) rs) ≡ None → (find (named id) rs ≡ None → find (named id) (rs ++ y ∷ []) ≡ Some y)
        → cond b (Some r) (find (named id) (rs ++ y ∷ [])) ≡ Some y
    go true f rest = absurd (some≢none r f)
    go false f rest = rest f

pub find_other : (id : Text) (rows : List Row) (y : Row) → named id y ≡ false → find (named id) (rows ++ y ∷ []) ≡ find (named id) rows
find_other id [] y isnt = rw isnt refl
find_other id (r ∷ rs) y isnt = ap (λ o. cond (named id r) (Some r) o) (find_other id rs y isnt)

-- the rows of the three arguments
pub record Rows (rows : List Row) (file value : Option Text) (table : Bool) : Type 0 where
  pub project : find (named (codes "project")) rows ≡ option_map (row (codes "project")) file
  pub shooters : find (named (codes "shooters")) rows ≡ option_map (row (codes "shooters")) value
  pub csv : find (named (codes "csv")) rows ≡ cond table (Some (row (codes "csv") (codes "true"))) None

-- one more row
pub added : (id value : Text) (rows : List Row) → find (named id) rows ≡ None → with_values id how.AsWritten source.CommandLine (value ∷ []) (without id rows) ≡ rows ++ row id value ∷ []
added id value rows e = ap (with_values id how.AsWritten source.CommandLine (value ∷ [])) (without_none id rows e) ∙ at_none id (more_values source.CommandLine (value ∷ [])) (row id value ∷ []) rows e

pub project_used : (rows : List Row) (file : Text) (value : Option Text) (table : Bool) → Rows rows None value table → Rows (used project (file ∷ []) rows) (Some file) value table
project_used rows file value table h =
    subst (λ l. Rows l (Some file) value table) (sym (added (codes "project") file rows h.project)) (record {
      project = find_new (codes "project") rows (row (codes "project") file) h.project refl;
      shooters = find_other (codes "shooters") rows (row (codes "project") file) refl ∙ h.shooters;
      csv = find_other (codes "csv") rows (row (codes "project") file) refl ∙ h.csv;
    })

pub shooters_used : (rows : List Row) (file : Option Text) (value : Text) (table : Bool) → Rows rows file None table → Rows (used shooters (value ∷ []) rows) file (Some value) table
shooters_used rows file value table h =
    subst (λ l. Rows l file (Some value) table) (sym (added (codes "shooters") value rows h.shooters)) (record {
      project = find_other (codes "project") rows (row (codes "shooters") value) refl ∙ h.project;
      shooters = find_new (codes "shooters") rows (row (codes "shooters") value) h.shooters refl;
      csv = find_other (codes "csv") rows (row (codes "shooters") value) refl ∙ h.csv;
    })

pub csv_used : (rows : List Row) (file value : Option Text) → Rows rows file value false → Rows (used csv [] rows) file value true
csv_used rows file value h =
    subst (λ l. Rows l file value true) (sym (added (codes "csv") (codes "true") rows h.csv)) (record {
      project = find_other (codes "project") rows (row (codes "csv") (codes "true")) refl ∙ h.project;
      shooters = find_other (codes "shooters") rows (row (codes "csv") (codes "true")) refl ∙ h.shooters;
      csv = find_new (codes "csv") rows (row (codes "csv") (codes "true")) h.csv refl;
    })

-- ---- the end

pub same_either : {X : Type 0} (b : Bool) (x : X) → cond b x x ≡ x
same_either true x = refl
same_either false x = refl

pub no_defaults : (a b c : Bool) (x y : Faults) → or_else (cond (a || true) [] x) (or_else (cond (b || true) [] y) (or_else (cond (c || false) [] []) [])) ≡ []
no_defaults true true true x y = refl
no_defaults true true false x y = refl
no_defaults true false true x y = refl
no_defaults true false false x y = refl
no_defaults false true true x y = refl
no_defaults false true false x y = refl
no_defaults false false true x y = refl
no_defaults false false false x y = refl

pub defaults_faultless : (rows : List Row) → defaults_fault rows rules ≡ []
unfolding clap_on_literals
defaults_faultless rows = no_defaults (has_row (codes "project") rows) (has_row (codes "shooters") (with_default rows project)) (has_row (codes "csv") (with_default (with_default rows project) shooters)) _ _

-- only the flag has a default
pub finished_is : (rows : List Row) → with_default (with_default (with_default rows project) shooters) csv ≡ with_default rows csv
finished_is rows =
    ap (λ (l : List Row). with_default (with_default l shooters) csv) (same_either (has_row (codes "project") rows) rows)
    ∙ ap (λ (l : List Row). with_default l csv) (same_either (has_row (codes "shooters") rows) rows)

-- the rows at the end
pub record Ends (rows : List Row) (file value : Option Text) (table : Bool) : Type 0 where
  pub project : find (named (codes "project")) rows ≡ option_map (row (codes "project")) file
  pub shooters : find (named (codes "shooters")) rows ≡ option_map (row (codes "shooters")) value
  pub csv : find (named (codes "csv")) rows ≡ Some (cond table (row (codes "csv") (codes "true")) (default_row (codes "csv") (codes "false")))

pub defaulted : (rows : List Row) (file value : Option Text) (table : Bool) → Rows rows file value table → Ends (with_default rows csv) file value table
defaulted rows file value true h =
    let there : has_row (codes "csv") rows ≡ true = has_row-find (codes "csv") rows ∙ ap (λ (o : Option Row). is_some o) h.csv in
    subst (λ (b : Bool). Ends (cond b rows (with_values (codes "csv") how.AsWritten source.DefaultValue (codes "false" ∷ []) rows)) file value true) (sym there) (record { project = h.project; shooters = h.shooters; csv = h.csv })
defaulted rows file value false h =
    let missing : has_row (codes "csv") rows ≡ false = has_row-find (codes "csv") rows ∙ ap (λ (o : Option Row). is_some o) h.csv in
    let last = default_row (codes "csv") (codes "false") in
    let grown : with_values (codes "csv") how.AsWritten source.DefaultValue (codes "false" ∷ []) rows ≡ rows ++ last ∷ [] = at_none (codes "csv") (more_values source.DefaultValue (codes "false" ∷ [])) (last ∷ []) rows h.csv in
    subst (λ (b : Bool). Ends (cond b rows (with_values (codes "csv") how.AsWritten source.DefaultValue (codes "false" ∷ []) rows)) file value false) (sym missing)
    (subst (λ (l : List Row). Ends l file value false) (sym grown) (record {
      project = find_other (codes "project") rows last refl ∙ h.project;
      shooters = find_other (codes "shooters") rows last refl ∙ h.shooters;
      csv = find_new (codes "csv") rows last h.csv refl;
    }))

-- what is wanted is there, or it isn't
pub complete : (rows : List Row) (file : Text) → find (named (codes "project")) rows ≡ Some (row (codes "project") file) → check_fault shape rows false ≡ []
complete rows file e = rw e refl

pub wanting : (rows : List Row) → find (named (codes "project")) rows ≡ None → check_fault shape rows false ≡ kind.MissingRequiredArgument ∷ []
wanting rows e = rw e refl

pub table_text : (table : Bool) (rows : List Row) → find (named (codes "csv")) rows ≡ Some (cond table (row (codes "csv") (codes "true")) (default_row (codes "csv") (codes "false")))
    → one_of (codes "csv") rows ≡ Some (bool_text table)
table_text true rows e = rw e refl
table_text false rows e = rw e refl

pub value_text : (value : Option Text) (rows : List Row) → find (named (codes "shooters")) rows ≡ option_map (row (codes "shooters")) value → first_of (codes "shooters") rows ≡ value
value_text None rows e = rw e refl
value_text (Some value) rows e = rw e refl

pub file_text : (file : Text) (rows : List Row) → find (named (codes "project")) rows ≡ Some (row (codes "project") file) → first_of (codes "project") rows ≡ Some file
file_text file rows e = rw e refl
