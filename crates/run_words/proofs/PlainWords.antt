-- The arguments and the operands behind some words, one word at a time.
use Rattle.std.proofs.Common.{◌≡◌, ◌∙◌, ℕ, ◌+◌, ◌&&◌, cond, List, [], ◌∷◌, ◌++◌, Bool, true, false, refl, sym, ap₂, append_assoc, length, map, filter}
use Rattle.std.specs.List.{list_all, range_with_len}
use Rattle.std.proofs.lemmas.List.{get_or_at, length_push}
use Rattle.lux_words.specs.Words.{is_argument, is_own_operand, word_at}
use Rattle.run_words.specs.RunWords.{run_options}
use Rattle.run_words.proofs.WordKinds.{Text}

abbrev pub arguments : List Text → List Text → Bool
arguments before rest = list_all (is_argument run_options (before ++ rest)) (range_with_len (length before) (length rest))

abbrev pub own_operands : List Text → List Text → List Text
own_operands before rest = map (word_at (before ++ rest)) (filter (is_own_operand run_options (before ++ rest)) (range_with_len (length before) (length rest)))

pub arguments_more : (before : List Text) (word : Text) (rest : List Text)
    → arguments before (word ∷ rest) ≡ (is_argument run_options (before ++ word ∷ rest) (length before) && arguments (before ++ word ∷ []) rest)
arguments_more before word rest =
    ap₂ (λ (l : List Text) (n : ℕ). is_argument run_options (before ++ word ∷ rest) (length before) && list_all (is_argument run_options l) (range_with_len n (length rest)))
    (sym (append_assoc before (word ∷ []) rest)) (sym (length_push before word))

pub word_here : (before : List Text) (word : Text) (rest : List Text) → word_at (before ++ word ∷ rest) (length before) ≡ word
word_here before word rest = get_or_at before word rest [] (length before) refl

pub map-cond : (f : ℕ → Text) (b : Bool) (place : ℕ) (places : List ℕ) → map f (cond b (place ∷ places) places) ≡ cond b (f place ∷ map f places) (map f places)
map-cond f true place places = refl
map-cond f false place places = refl

pub operands_more : (before : List Text) (word : Text) (rest : List Text)
    → own_operands before (word ∷ rest) ≡ cond (is_own_operand run_options (before ++ word ∷ rest) (length before)) (word ∷ own_operands (before ++ word ∷ []) rest) (own_operands (before ++ word ∷ []) rest)
operands_more before word rest =
    map-cond (word_at (before ++ word ∷ rest)) (is_own_operand run_options (before ++ word ∷ rest) (length before)) (length before)
    (filter (is_own_operand run_options (before ++ word ∷ rest)) (range_with_len (length before + 1) (length rest)))
    ∙ ap₂ (λ (w : Text) (l : List Text). cond (is_own_operand run_options (before ++ word ∷ rest) (length before)) (w ∷ l) l) (word_here before word rest)
    (ap₂ (λ (l : List Text) (n : ℕ). map (word_at l) (filter (is_own_operand run_options l) (range_with_len n (length rest)))) (sym (append_assoc before (word ∷ []) rest)) (sym (length_push before word)))
