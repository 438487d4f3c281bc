-- The words of a ledger's lines, which have their forms, and the bytes of these lines, which end none.
use Rattle.std.proofs.Common.{◌≡◌, ℕ, ◌<◌, ◌^◌, ◌==◌, ◌&&◌, not, Bool, true, false, List, [], ◌∷◌, ◌++◌, slice_index, refl, ap, ◌∙◌, arith, append_assoc, codes}
use Rattle.std.specs.Prelude.{bytes_eq}
use Rattle.std.specs.Fmt.{decimal}
use Rattle.std.specs.Char.{is_ascii_digit}
use Rattle.std.specs.List.{list_all, onto_first}
use Rattle.std.proofs.lemmas.Bool.Decides.{nat_tests}
use Rattle.std.proofs.lemmas.Grind.{common_steps}
use Rattle.std.proofs.lemmas.List.Folds.{list_all-append}
use Rattle.flux_ledger.specs.declared.ledger.Ledger.{Ledger}
use Rattle.lux_lines.specs.Words.{words}
use Rattle.ledger_file.specs.Forms.{count_form, patch_form, have_form, numbers_of}
use Rattle.ledger_file.proofs.Joined.{is_plain}
use Rattle.ledger_file.proofs.Numerals.{decimal_digits, decimal_numeral, decimal_value}
use Rattle.ledger_file.proofs.Written.{patch_text}

-- no blank
abbrev pub is_solid : ℕ → Bool
is_solid byte = not (byte == 32)

both : (a b : Bool) → (a && b) ≡ true → (a ≡ true) × (b ≡ true)
both true b h = (refl, h)
both false b h = absurd (cc)

-- a test that each digit passes
module _ (test : ℕ → Bool) (passes : (byte : ℕ) → is_ascii_digit byte ≡ true → test byte ≡ true) where
  all_pass : (bytes : List ℕ) → list_all is_ascii_digit bytes ≡ true → list_all test bytes ≡ true
  all_pass [] h = refl
  all_pass (byte ∷ bytes) h = let parts = both (is_ascii_digit byte) (list_all is_ascii_digit bytes) h in rw (passes byte parts.0, all_pass bytes parts.1) refl

plain_digit : (byte : ℕ) → is_ascii_digit byte ≡ true → is_plain byte ≡ true
plain_digit byte h = grind (arith, nat_tests)

solid_digit : (byte : ℕ) → is_ascii_digit byte ≡ true → is_solid byte ≡ true
solid_digit byte h = grind (arith, nat_tests)

plain_number : (n : ℕ) → n < 2 ^ 64 → list_all is_plain (decimal n) ≡ true
plain_number n small = all_pass is_plain plain_digit (decimal n) (decimal_digits n small)

solid_number : (n : ℕ) → n < 2 ^ 64 → list_all is_solid (decimal n) ≡ true
solid_number n small = all_pass is_solid solid_digit (decimal n) (decimal_digits n small)

-- ---- bytes

plain_both : (front behind : List ℕ) → list_all is_plain front ≡ true → list_all is_plain behind ≡ true → list_all is_plain (front ++ behind) ≡ true
plain_both front behind a b = list_all-append is_plain front behind ∙ rw (a, b) refl

pub plain_count : (keyword : List ℕ) (n : ℕ) → n < 2 ^ 64 → list_all is_plain keyword ≡ true → list_all is_plain (keyword ++ decimal n) ≡ true
plain_count keyword n small h = plain_both keyword (decimal n) h (plain_number n small)

-- the numbers of a line have 64 bits
pub record AreSmall (l : Ledger) (j : ℕ) : Type 0 where
  pub patch : j < 2 ^ 64
  pub direct : slice_index l.direct j < 2 ^ 64
  pub taken : slice_index l.taken j < 2 ^ 64
  pub residual : slice_index l.residual j < 2 ^ 64
  pub err : slice_index l.err j < 2 ^ 64

-- ten pieces in a row
ten_plain : (a b c d e f g h i k : List ℕ) → list_all is_plain a ≡ true → list_all is_plain b ≡ true → list_all is_plain c ≡ true → list_all is_plain d ≡ true → list_all is_plain e ≡ true
    → list_all is_plain f ≡ true → list_all is_plain g ≡ true → list_all is_plain h ≡ true → list_all is_plain i ≡ true → list_all is_plain k ≡ true
    → list_all is_plain (a ++ b ++ c ++ d ++ e ++ f ++ g ++ h ++ i ++ k) ≡ true
ten_plain a b c d e f g h i k pa pb pc pd pe pf pg ph pi pk =
    plain_both (a ++ b ++ c ++ d ++ e ++ f ++ g ++ h ++ i) k (plain_both (a ++ b ++ c ++ d ++ e ++ f ++ g ++ h) i (plain_both (a ++ b ++ c ++ d ++ e ++ f ++ g) h (plain_both (a ++ b ++ c ++ d ++ e ++ f) g (plain_both (a ++ b ++ c ++ d ++ e) f (plain_both (a ++ b ++ c ++ d) e (plain_both (a ++ b ++ c) d (plain_both (a ++ b) c (plain_both a b pa pb) pc) pd) pe) pf) pg) ph) pi) pk

pub plain_patch : (l : Ledger) (j : ℕ) → AreSmall l j → list_all is_plain (patch_text l j) ≡ true
plain_patch l j small =
    ten_plain (codes "patch ") (decimal j) (codes " direct ") (decimal (slice_index l.direct j)) (codes " taken ") (decimal (slice_index l.taken j)) (codes " residual ") (decimal (slice_index l.residual j)) (codes " err ") (decimal (slice_index l.err j))
    refl (plain_number j small.patch) refl (plain_number _ small.direct) refl (plain_number _ small.taken) refl (plain_number _ small.residual) refl (plain_number _ small.err)

-- ---- words

word_then : (word rest : List ℕ) → list_all is_solid word ≡ true → words (word ++ 32 ∷ rest) ≡ word ∷ words rest
word_then [] rest solid = refl
word_then (byte ∷ word) rest solid =
    let parts = both (is_solid byte) (list_all is_solid word) solid in
    let no : (byte == 32) ≡ false = grind (arith, common_steps, parts.0) in
    rw no (ap (onto_first byte) (word_then word rest parts.1))

word_last : (word : List ℕ) → list_all is_solid word ≡ true → words word ≡ word ∷ []
word_last [] solid = refl
word_last (byte ∷ word) solid =
    let parts = both (is_solid byte) (list_all is_solid word) solid in
    let no : (byte == 32) ≡ false = grind (arith, common_steps, parts.0) in
    rw no (ap (onto_first byte) (word_last word parts.1))

-- a keyword and a number
module _ (keyword : List ℕ) (n : ℕ) (small : n < 2 ^ 64) (solid : list_all is_solid keyword ≡ true) (same : bytes_eq keyword keyword ≡ true) where
  count_words : words (keyword ++ 32 ∷ decimal n) ≡ keyword ∷ decimal n ∷ []
  count_words = word_then keyword (decimal n) solid ∙ ap (λ (ws : List (List ℕ)). keyword ∷ ws) (word_last (decimal n) (solid_number n small))

  pub count_fits : have_form (count_form keyword) (words (keyword ++ 32 ∷ decimal n)) ≡ true
  count_fits = ap (have_form (count_form keyword)) count_words ∙ rw (same, decimal_numeral n small) refl

  pub count_says : numbers_of (count_form keyword) (words (keyword ++ 32 ∷ decimal n)) ≡ n ∷ []
  count_says = ap (numbers_of (count_form keyword)) count_words ∙ ap (λ (v : ℕ). v ∷ []) (decimal_value n small)

-- ten words
ten_words : (a b c d e f g h i k : List ℕ) → list_all is_solid a ≡ true → list_all is_solid b ≡ true → list_all is_solid c ≡ true → list_all is_solid d ≡ true → list_all is_solid e ≡ true
    → list_all is_solid f ≡ true → list_all is_solid g ≡ true → list_all is_solid h ≡ true → list_all is_solid i ≡ true → list_all is_solid k ≡ true
    → words (a ++ 32 ∷ (b ++ 32 ∷ (c ++ 32 ∷ (d ++ 32 ∷ (e ++ 32 ∷ (f ++ 32 ∷ (g ++ 32 ∷ (h ++ 32 ∷ (i ++ 32 ∷ k))))))))) ≡ a ∷ b ∷ c ∷ d ∷ e ∷ f ∷ g ∷ h ∷ i ∷ k ∷ []
ten_words a b c d e f g h i k sa sb sc sd se sf sg sh si sk =
    word_then a _ sa ∙ ap (λ (ws : List (List ℕ)). a ∷ ws) (word_then b _ sb ∙ ap (λ (ws : List (List ℕ)). b ∷ ws) (word_then c _ sc ∙ ap (λ (ws : List (List ℕ)). c ∷ ws) (word_then d _ sd ∙ ap (λ (ws : List (List ℕ)). d ∷ ws)
    (word_then e _ se ∙ ap (λ (ws : List (List ℕ)). e ∷ ws) (word_then f _ sf ∙ ap (λ (ws : List (List ℕ)). f ∷ ws) (word_then g _ sg ∙ ap (λ (ws : List (List ℕ)). g ∷ ws) (word_then h _ sh ∙ ap (λ (ws : List (List ℕ)). h ∷ ws)
    (word_then i _ si ∙ ap (λ (ws : List (List ℕ)). i ∷ ws) (word_last k sk)))))))))

-- ten pieces in a row
ten : (a b c d e f g h i k : List ℕ) → a ++ b ++ c ++ d ++ e ++ f ++ g ++ h ++ i ++ k ≡ a ++ (b ++ (c ++ (d ++ (e ++ (f ++ (g ++ (h ++ (i ++ k))))))))
ten a b c d e f g h i k = rw (append_assoc, append_assoc, append_assoc, append_assoc, append_assoc, append_assoc, append_assoc, append_assoc) refl

-- the keywords of a line of a patch apart from their blanks
apart : (j d t r e : List ℕ)
    → codes "patch " ++ (j ++ (codes " direct " ++ (d ++ (codes " taken " ++ (t ++ (codes " residual " ++ (r ++ (codes " err " ++ e))))))))
    ≡ codes "patch" ++ 32 ∷ (j ++ 32 ∷ (codes "direct" ++ 32 ∷ (d ++ 32 ∷ (codes "taken" ++ 32 ∷ (t ++ 32 ∷ (codes "residual" ++ 32 ∷ (r ++ 32 ∷ (codes "err" ++ 32 ∷ e))))))))
apart j d t r e = refl

-- the line of patch j
module _ (l : Ledger) (j : ℕ) (small : AreSmall l j) where
  patch_words : words (patch_text l j)
      ≡ codes "patch" ∷ decimal j ∷ codes "direct" ∷ decimal (slice_index l.direct j) ∷ codes "taken" ∷ decimal (slice_index l.taken j)
      ∷ codes "residual" ∷ decimal (slice_index l.residual j) ∷ codes "err" ∷ decimal (slice_index l.err j) ∷ []
  patch_words =
      let d = decimal (slice_index l.direct j) in
      let t = decimal (slice_index l.taken j) in
      let r = decimal (slice_index l.residual j) in
      let e = decimal (slice_index l.err j) in
      ap words (ten (codes "patch ") (decimal j) (codes " direct ") d (codes " taken ") t (codes " residual ") r (codes " err ") e ∙ apart (decimal j) d t r e)
      ∙ ten_words (codes "patch") (decimal j) (codes "direct") d (codes "taken") t (codes "residual") r (codes "err") e
      refl (solid_number j small.patch) refl (solid_number _ small.direct) refl (solid_number _ small.taken) refl (solid_number _ small.residual) refl (solid_number _ small.err)

  pub patch_fits : have_form patch_form (words (patch_text l j)) ≡ true
  patch_fits = ap (have_form patch_form) patch_words
      ∙ rw (decimal_numeral j small.patch, decimal_numeral _ small.direct, decimal_numeral _ small.taken, decimal_numeral _ small.residual, decimal_numeral _ small.err) refl

  pub patch_says : numbers_of patch_form (words (patch_text l j)) ≡ j ∷ slice_index l.direct j ∷ slice_index l.taken j ∷ slice_index l.residual j ∷ slice_index l.err j ∷ []
  patch_says = ap (numbers_of patch_form) patch_words
      ∙ (λ k. decimal_value j small.patch k ∷ decimal_value _ small.direct k ∷ decimal_value _ small.taken k ∷ decimal_value _ small.residual k ∷ decimal_value _ small.err k ∷ [])
