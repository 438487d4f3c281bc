-- The value of the option among words.
use Rattle.std.proofs.Common.{◌≡◌, ◌∙◌, ℕ, suc, ◌+◌, ◌<◌, ◌||◌, not, cond, List, [], ◌∷◌, ◌++◌, Bool, true, false, Some, None, option_map, refl, sym, ap, arith, true≢false, append-nil, append_assoc, nat_lt, length, lt-ltb, le-ltb, length-append}
use Rattle.std.specs.List.{list_any, prefix_len}
use Rattle.std.specs.Str.{bytes_eq}
use Rattle.std.proofs.lemmas.List.{get_or_at, length_push}
use Rattle.lux_words.specs.Words.{is_among, setting_of, word_at}
use Rattle.run_words.proofs.WordKinds.{Text, shooters_word}

-- ---- the value of the option

pub or_false : (a b : Bool) → (a || b) ≡ false → (a ≡ false) × (b ≡ false)
or_false true b e = absurd (true≢false e)
or_false false b e = (refl, e)

pub list_any-push : (test : Text → Bool) (words : List Text) (word : Text) → list_any test (words ++ word ∷ []) ≡ (list_any test words || test word)
list_any-push test [] word = go (test word)
  where
    go : (b : Bool) → (b || false) ≡ b
    go true = refl
    go false = refl
list_any-push test (other ∷ words) word = go (test other) (list_any-push test words word)
  where
    go : (b : Bool) → list_any test (words ++ word ∷ []) ≡ (list_any test words || test word) → (b || list_any test (words ++ word ∷ [])) ≡ ((b || list_any test words) || test word)
    go true e = refl
    go false e = e

abbrev pub passed : List Text → ℕ
passed words = prefix_len (λ word. not (bytes_eq word shooters_word)) words

pub passed_all : (before rest : List Text) → is_among before shooters_word ≡ false → passed (before ++ rest) ≡ length before + passed rest
passed_all [] rest e = omega arith
passed_all (word ∷ before) rest e =
    let p = or_false (bytes_eq word shooters_word) (is_among before shooters_word) e in
    let more : passed (before ++ rest) ≡ length before + passed rest = passed_all before rest p.1 in
    rw p.0 (omega arith)

pub found_at : (words : List Text) (place : ℕ) → passed words ≡ place → place < length words → setting_of shooters_word words ≡ Some (word_at words (place + 1))
unfolding setting_of
found_at words place e inside =
    ap (λ (n : ℕ). option_map (λ (k : ℕ). word_at words (k + 1)) (cond (nat_lt n (length words)) (Some n) None)) e
    ∙ ap (λ (b : Bool). option_map (λ (k : ℕ). word_at words (k + 1)) (cond b (Some place) None)) (lt-ltb place (length words) inside)

pub missing_at : (words : List Text) → passed words ≡ length words → setting_of shooters_word words ≡ None
unfolding setting_of
missing_at words e =
    ap (λ (n : ℕ). option_map (λ (k : ℕ). word_at words (k + 1)) (cond (nat_lt n (length words)) (Some n) None)) e
    ∙ ap (λ (b : Bool). option_map (λ (k : ℕ). word_at words (k + 1)) (cond b (Some (length words)) None)) (le-ltb (length words) (length words) (omega arith))

-- the option stands nowhere
pub no_value : (before : List Text) → is_among before shooters_word ≡ false → setting_of shooters_word before ≡ None
no_value before e =
    missing_at before (ap passed (sym (append-nil before)) ∙ (passed_all before [] e ∙ omega arith))

-- the option stands there for the first time
pub value_behind : (before : List Text) (value : Text) (rest : List Text) → is_among before shooters_word ≡ false → setting_of shooters_word ((before ++ shooters_word ∷ []) ++ value ∷ rest) ≡ Some value
value_behind before value rest e =
    let words : List Text = (before ++ shooters_word ∷ []) ++ value ∷ rest in
    let split : words ≡ before ++ (shooters_word ∷ value ∷ rest) = append_assoc before (shooters_word ∷ []) (value ∷ rest) in
    let place : passed words ≡ length before = ap passed split ∙ (passed_all before (shooters_word ∷ value ∷ rest) e ∙ omega arith) in
    let long : length words ≡ length before + suc (suc (length rest)) = ap length split ∙ length-append before (shooters_word ∷ value ∷ rest) in
    found_at words (length before) place (omega arith)
    ∙ ap (λ (word : Text). Some word) (get_or_at (before ++ shooters_word ∷ []) value rest [] (length before + 1) (length_push before shooters_word))
