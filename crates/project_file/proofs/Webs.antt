-- The luminaires one by one, and their files.
use Rattle.std.proofs.Common.{◌≡◌, ℕ, zero, suc, ◌+◌, ◌<◌, ◌≤◌, true, List, [], ◌∷◌, ◌++◌, length, map, get_or, take, inl, inr, refl, ap, ◌∙◌, sym, add-one, eq-eqb, ◌==◌, Option, arith}
use Rattle.std.specs.List.{list_any, range_with_len, All}
use Rattle.std.specs.Str.{bytes_eq}
use Rattle.std.proofs.lemmas.Bool.{cases_lt}
use Rattle.std.proofs.lemmas.List.{take_all}
use Rattle.std.proofs.lemmas.List.FromFn.{get_or-map-range_with_len, length-map-range_with_len}
use Rattle.laws.proofs.Ranges.{map-more}
use Rattle.toml.specs.Data.{Data}
use Rattle.fixtures.specs.declared.spec.FixtureSpec.{FixtureSpec}
use Rattle.project_file.specs.Fields.{toml_table}
use Rattle.project_file.specs.Projects.{listed_table, file_name, file_names, without_repetitions, fixture_spec, fixture_spec_among, fixture_specs_among}
use Rattle.project_file.specs.Shapes.{with_file}
use Rattle.project_file.proofs.Files.{any_front, any_last, among_more, place_more, among_itself, place_within, place_of_new}
use Rattle.project_file.proofs.Repetitions.{one_more_name, values_more, values_by_places}

-- the file of luminaire i
abbrev pub file : List Data → ℕ → List ℕ
file ls i = file_name (listed_table ls i)

-- the different files that the first n luminaires name, as they come
abbrev pub files_named : List Data → ℕ → List (List ℕ)
files_named ls zero = []
files_named ls (suc n) = with_file (files_named ls n) (file ls n)

-- luminaire i over some files
abbrev pub fixture : List Data → List (List ℕ) → ℕ → FixtureSpec
fixture ls files i = fixture_spec_among files (listed_table ls i)

-- the first n luminaires over some files
abbrev pub fixtures_named : List Data → List (List ℕ) → ℕ → List FixtureSpec
fixtures_named ls files n = map (fixture ls files) (range_with_len 0 n)

-- they are the names of the first n without later repetitions
pub files_are : (ls : List Data) (n : ℕ) → n ≤ length ls → files_named ls n ≡ without_repetitions (file_names (take n ls))
files_are ls zero within = refl
files_are ls (suc n) within =
    ap (λ (files : List (List ℕ)). with_file files (file ls n)) (files_are ls n (omega arith))
    ∙ (sym (one_more_name (file_names (take n ls)) (file ls n)) ∙ ap without_repetitions (sym (values_more (λ (value : Option Data). file_name (toml_table value)) ls n (omega arith))))

pub all_files_are : (ls : List Data) → files_named ls (length ls) ≡ without_repetitions (file_names ls)
all_files_are ls = files_are ls (length ls) (omega arith) ∙ ap (λ (front : List Data). without_repetitions (file_names front)) (take_all (length ls) ls (omega arith))

pub all_fixtures_are : (ls : List Data) (files : List (List ℕ)) → fixtures_named ls files (length ls) ≡ fixture_specs_among files ls
all_fixtures_are ls files =
    sym (values_by_places (λ (value : Option Data). fixture_spec_among files (toml_table value)) ls (length ls) (omega arith))
    ∙ ap (fixture_specs_among files) (take_all (length ls) ls (omega arith))

-- one more file
pub files_more : (ls : List Data) (n : ℕ) → files_named ls (n + 1) ≡ with_file (files_named ls n) (file ls n)
files_more ls n = rw add-one

-- each file that is named is among the files
among : (ls : List Data) (n k : ℕ) → k < n → list_any (bytes_eq (file ls k)) (files_named ls n) ≡ true
among ls zero k inside = absurd (omega arith)
among ls (suc n) k inside =
    elim (cases_lt k n) [
      | inl before ↦ among_more (bytes_eq (file ls k)) (files_named ls n) (file ls n) (among ls n k before)
      | inr last ↦ let e : k ≡ n = omega arith in rw e (among_itself (files_named ls n) (file ls n))
    ]

-- one more luminaire over the same files
step : (ls : List Data) (files : List (List ℕ)) (m : ℕ) → fixtures_named ls files (m + 1) ≡ fixtures_named ls files m ++ fixture ls files m ∷ []
step ls files m = map-more (fixture ls files) m

map_same : {X : Type 0} (f g : ℕ → X) (a n : ℕ) → ((k : ℕ) → k < n → f (a + k) ≡ g (a + k)) → map f (range_with_len a n) ≡ map g (range_with_len a n)
map_same f g a zero same = refl
map_same f g a (suc n) same =
    let first : a + 0 ≡ a = omega arith in
    let here : f a ≡ g a = rw first at (same 0 (omega arith)) in
    let later = map_same f g (a + 1) n (λ k below. let next : a + suc k ≡ (a + 1) + k = omega arith in rw next at (same (suc k) (omega arith))) in
    λ j. here j ∷ later j

-- a file that is named later changes no luminaire before
earlier_fixtures_same : (ls : List Data) (n : ℕ) → fixtures_named ls (files_named ls (n + 1)) n ≡ fixtures_named ls (files_named ls n) n
earlier_fixtures_same ls n = map_same (fixture ls (files_named ls (n + 1))) (fixture ls (files_named ls n)) 0 n same
  where
    same : (k : ℕ) → k < n → fixture ls (files_named ls (n + 1)) (0 + k) ≡ fixture ls (files_named ls n) (0 + k)
    same k below =
        let place : 0 + k ≡ k = omega arith in
        rw (place, files_more ls n) (ap (λ (web : ℕ). fixture_spec web (listed_table ls k)) (place_more (bytes_eq (file ls k)) (files_named ls n) (file ls n) (among ls n k below)))

-- one more luminaire and its file
pub fixtures_more : (ls : List Data) (n : ℕ) → fixtures_named ls (files_named ls (n + 1)) (n + 1) ≡ fixtures_named ls (files_named ls n) n ++ fixture ls (files_named ls (n + 1)) n ∷ []
fixtures_more ls n = step ls (files_named ls (n + 1)) n ∙ ap (λ (fs : List FixtureSpec). fs ++ fixture ls (files_named ls (n + 1)) n ∷ []) (earlier_fixtures_same ls n)

pub many : (ls : List Data) (files : List (List ℕ)) (n : ℕ) → length (fixtures_named ls files n) ≡ n
many ls files n = length-map-range_with_len (fixture ls files) 0 n

-- each luminaire has the web of a file
pub webs : (ls : List Data) (n : ℕ) → All (λ f. f.web < length (files_named ls n)) (fixtures_named ls (files_named ls n) n)
unfolding fixture_spec
webs ls n k d inside =
    let below : k < n = omega (arith, many ls (files_named ls n) n) in
    let at : get_or (fixtures_named ls (files_named ls n) n) k d ≡ fixture ls (files_named ls n) k = get_or-map-range_with_len (fixture ls (files_named ls n)) 0 n k k d below (omega arith) in
    rw at (place_within (bytes_eq (file ls k)) (files_named ls n) (among ls n k below))

-- a luminaire whose file is new has the new place
has_web : (ls : List Data) (n j : ℕ) → length (files_named ls n) ≤ j → j < length (with_file (files_named ls n) (file ls n)) → ((fixture ls (files_named ls (suc n)) n).web == j) ≡ true
unfolding fixture_spec
has_web ls n j past inside = eq-eqb _ j (place_of_new (files_named ls n) (file ls n) j past inside)

-- each file has a luminaire
pub used : (ls : List Data) (n j : ℕ) → j < length (files_named ls n) → list_any (λ f. f.web == j) (fixtures_named ls (files_named ls n) n) ≡ true
used ls zero j inside = absurd (omega arith)
used ls (suc n) j inside =
    let one : suc n ≡ n + 1 = omega arith in
    let more : fixtures_named ls (files_named ls (suc n)) (suc n) ≡ fixtures_named ls (files_named ls n) n ++ fixture ls (files_named ls (suc n)) n ∷ [] =
    (λ k. fixtures_named ls (files_named ls (one k)) (one k)) ∙ (fixtures_more ls n ∙ (λ k. fixtures_named ls (files_named ls n) n ++ fixture ls (files_named ls (sym one k)) n ∷ [])) in
    ap (λ (fs : List FixtureSpec). list_any (λ f. f.web == j) fs) more
    ∙ (elim (cases_lt j (length (files_named ls n))) [
      | inl before ↦ any_front (λ (f : FixtureSpec). f.web == j) (fixtures_named ls (files_named ls n) n) (fixture ls (files_named ls (suc n)) n ∷ []) (used ls n j before)
      | inr past ↦ any_last (λ (f : FixtureSpec). f.web == j) (fixtures_named ls (files_named ls n) n) (fixture ls (files_named ls (suc n)) n) (has_web ls n j past inside)
    ])
