-- Words that are no run, by their keyword or by the first test.
use Rattle.std.proofs.Common.{◌≡◌, ◌∙◌, ℕ, suc, ◌+◌, ◌-◌, ◌&&◌, ◌||◌, not, List, [], ◌∷◌, ◌++◌, Bool, true, false, None, codes, refl, ap, arith, true≢false, nat_lt, length, take, drop}
use Rattle.std.specs.List.{list_all, range_with_len}
use Rattle.std.specs.Str.{bytes_eq}
use Rattle.lux_words.specs.Words.{is_among, is_argument, is_operand, is_value, places_behind, word_at}
use Rattle.run_words.specs.RunWords.{run_of, run_options}
use Rattle.run_words.specs.Shapes.{is_readable}
use Rattle.run_words.proofs.WordKinds.{Text}
use Rattle.run_words.proofs.PlainValues.{or_false}
use Rattle.run_words.proofs.PlainWords.{arguments, arguments_more, word_here}

abbrev keyword : List ℕ
keyword = codes "run"

-- another keyword
another : (words : List Text) → bytes_eq (word_at words 0) keyword ≡ false → None ≡ run_of words
another words e = rw e refl

-- a word that is nothing to `run` is no argument
unreadable_here : (before : List Text) (word : Text) (rest : List Text) → is_readable word ≡ false → is_argument run_options (before ++ word ∷ rest) (length before) ≡ false
unreadable_here before word rest e =
    let p = or_false (is_among run_options.flags word || is_among run_options.settings word) (is_operand word) e in
    let q = or_false (is_among run_options.flags word) (is_among run_options.settings word) p.0 in
    let here = word_here before word rest in
    let fresh = not (is_among (take (length before) (before ++ word ∷ rest)) (word_at (before ++ word ∷ rest) (length before))) in
    let free = not (is_value run_options (before ++ word ∷ rest) (length before)) in
    let next = nat_lt (length before + 1) (length (before ++ word ∷ rest)) in
    ap (λ (w : Text). is_operand w || (((is_among run_options.flags w || (is_among run_options.settings w && next)) && fresh) && free)) here
    ∙ (λ i. p.1 i || (((q.0 i || (q.1 i && next)) && fresh) && free))

no_arguments : (before words : List Text) → list_all is_readable words ≡ false → arguments before words ≡ false
no_arguments before [] e = absurd (true≢false e)
no_arguments before (word ∷ words) e = arguments_more before word words ∙ go (is_readable word) refl e (no_arguments (before ++ word ∷ []) words)
  where
    unless : (b : Bool) → (b && false) ≡ false
    unless true = refl
    unless false = refl

    go : (b : Bool) → is_readable word ≡ b → (b && list_all is_readable words) ≡ false → (list_all is_readable words ≡ false → arguments (before ++ word ∷ []) words ≡ false)
        → (is_argument run_options (before ++ word ∷ words) (length before) && arguments (before ++ word ∷ []) words) ≡ false
    go true is f rest = ap (λ (b : Bool). is_argument run_options (before ++ word ∷ words) (length before) && b) (rest f) ∙ unless (is_argument run_options (before ++ word ∷ words) (length before))
    go false is f rest = ap (λ (b : Bool). b && arguments (before ++ word ∷ []) words) (unreadable_here before word words is)

unreadable : (word : Text) (words : List Text) → list_all is_readable words ≡ false → None ≡ run_of (word ∷ words)
unreadable word words e =
    let count : suc (length words) - 1 ≡ length words = omega arith in
    let refused : list_all (is_argument run_options (word ∷ words)) (places_behind (word ∷ words)) ≡ false =
    ap (λ (n : ℕ). list_all (is_argument run_options (word ∷ words)) (range_with_len 1 n)) count ∙ no_arguments (word ∷ []) words e in
    go (bytes_eq word keyword) refl refused
  where
    go : (b : Bool) → bytes_eq word keyword ≡ b → list_all (is_argument run_options (word ∷ words)) (places_behind (word ∷ words)) ≡ false → None ≡ run_of (word ∷ words)
    go false e refused = another (word ∷ words) e
    go true e refused = rw (e, refused) refl

-- words that fail the first test
pub no_run : (words : List Text) → (bytes_eq (word_at words 0) keyword && list_all is_readable (drop 1 words)) ≡ false → None ≡ run_of words
no_run [] e = refl
no_run (word ∷ words) e = go (bytes_eq word keyword) refl e
  where
    go : (b : Bool) → bytes_eq word keyword ≡ b → (b && list_all is_readable words) ≡ false → None ≡ run_of (word ∷ words)
    go false is f = another (word ∷ words) is
    go true is f = unreadable word words f
