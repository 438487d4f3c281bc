-- Steps along the tokens of a text.
use Rattle.std.proofs.Common.{◌≡◌, ℕ, suc, ◌+◌, ◌-◌, ◌<◌, ◌≤◌, Bool, true, false, List, [], ◌∷◌, length, get_or, drop, map, Some, None, refl, sym, ap, ◌∙◌, arith, not, ◌&&◌}
use Rattle.std.specs.Prelude.{slice_get}
use Rattle.std.specs.List.{position_or_len}
use Rattle.std.proofs.lemmas.List.{get_or-drop, length-drop, drop_more}
use Rattle.std.proofs.lemmas.Bool.Decides.{nat_tests}
use Rattle.std.proofs.lemmas.Bool.{true≢false}
use Rattle.std.proofs.lemmas.List.Sums.{passes_at_first, prefix_len-le-length}
use Rattle.lux_lines.specs.Places.{is_newline, places_from}
use Rattle.lux_lines.specs.Tokens.{is_separator, token_line, starts_token, token_at, tokens_from, tokens}
use Rattle.lux_lines.specs.Cursors.{IsBetweenTokens, IsAtToken}
use Rattle.lux_lines.proofs.Steps.{places_end, places_yes, places_no, places_skip, stretch_fails, count_stretch, first_within, left_some, left_none}

newline_separates : (byte : ℕ) → is_separator byte ≡ false → is_newline byte ≡ false
newline_separates byte h = grind (arith, nat_tests)

-- past a separator
pub tokens_past : (first : ℕ) (text : List ℕ) (p : ℕ) → p < length text → is_separator (get_or text p 0) ≡ true → tokens_from first text p ≡ tokens_from first text (p + 1)
unfolding tokens_from starts_token
tokens_past first text p within passes =
    let fails : starts_token text p ≡ false = rw passes refl in
    ap (map (token_at first text)) (places_no (starts_token text) (length text) p within fails)

-- a token has a byte
pub token_len : (text : List ℕ) (p n : ℕ) → p < length text → is_separator (get_or text p 0) ≡ false → n ≡ position_or_len is_separator (drop p text) → 0 < n
token_len text p n within fails is_n = rw (is_n, drop_more text p 0 within, fails) (omega arith)

-- from the start of a token, that token and those from its end on
pub tokens_more : (first : ℕ) (text : List ℕ) (p n : ℕ) → p < length text → is_separator (get_or text p 0) ≡ false → is_separator (get_or (32 ∷ text) p 0) ≡ true → n ≡ position_or_len is_separator (drop p text) → tokens_from first text p ≡ token_at first text p ∷ tokens_from first text (p + n)
unfolding tokens_from starts_token
tokens_more first text p n within fails before is_n =
    let starts : starts_token text p ≡ true = rw (fails, before) refl in
    let step = places_yes (starts_token text) (length text) p within starts in
    let within_n : n ≤ length text - p = omega (arith, prefix_len-le-length (λ b. not (is_separator b)) (drop p text), length-drop p text) in
    let some : 0 < n = token_len text p n within fails is_n in
    let skip = places_skip (starts_token text) (length text) (p + 1) (n - 1) (omega arith) (λ k a b. inside text p k (omega arith) (omega arith)) in
    let e : (p + 1) + (n - 1) ≡ p + n = omega arith in
    ap (map (token_at first text)) (step ∙ ap (λ (r : List ℕ). p ∷ r) (skip ∙ ap (places_from (starts_token text) (length text)) e))
  where
    inside : (text : List ℕ) (p k : ℕ) → p < k → k ≤ p + position_or_len is_separator (drop p text) → starts_token text k ≡ false
    inside text p k a b =
        let e : k ≡ suc (k - 1) = omega arith in
        let fails : is_separator (get_or (32 ∷ text) k 0) ≡ false = rw e (stretch_fails is_separator text p (k - 1) (omega arith) (omega arith)) in
        elim (not (is_separator (get_or text k 0))) as (λ (v : Bool). (v && is_separator (get_or (32 ∷ text) k 0)) ≡ false) [ true ↦ fails | false ↦ refl ]

pub tokens_none : (first : ℕ) (text : List ℕ) (p : ℕ) → length text ≤ p → tokens_from first text p ≡ []
unfolding tokens_from
tokens_none first text p h = ap (map (token_at first text)) (places_end (starts_token text) (length text) p h)

-- a token has no LF in it
pub behind_token : (first : ℕ) (text : List ℕ) (p n number : ℕ) → p < length text → n ≡ position_or_len is_separator (drop p text) → number ≡ token_line first text p → (p + n ≤ length text) × (number ≡ token_line first text (p + n))
behind_token first text p n number within is_n counted =
    let within_n : p + n ≤ length text = first_within is_separator text p n (omega arith) is_n in
    let same = count_stretch is_newline text p n (omega arith) (λ k a b. newline_separates (get_or text k 0) (stretch_fails is_separator text p k a (omega arith))) in
    (omega arith, omega arith)

-- behind a token stands a separator, or the text ends
pub ends_at_separator : (text : List ℕ) (p n : ℕ) → p < length text → n ≡ position_or_len is_separator (drop p text) → p + n < length text → is_separator (get_or text (p + n) 0) ≡ true
ends_at_separator text p n within is_n h =
    let found = passes_at_first is_separator (drop p text) 0 (let stop : position_or_len is_separator (drop p text) < length (drop p text) = omega (arith, length-drop p text) in stop) in
    rw (is_n, ← get_or-drop p text (position_or_len is_separator (drop p text)) 0) found

-- what reading a token shows: the token, and where the reader stands behind it
pub record IsTokenStep (first : ℕ) (text : List ℕ) (place number read next : ℕ) : Type 0 where
  pub token : slice_get (tokens first text) read ≡ Some (token_at first text place)
  pub there : read < length (tokens first text)
  pub after : IsAtToken first text next number (read + 1)

-- a token behind some separators
pub token_step : (first : ℕ) (text : List ℕ) (old old_number place number read n : ℕ) → IsAtToken first text old old_number read → old ≤ place → IsBetweenTokens first text place number → tokens_from first text old ≡ tokens_from first text place → place < length text → is_separator (get_or text place 0) ≡ false → n ≡ position_or_len is_separator (drop place text) → IsTokenStep first text place number read (place + n)
token_step first text old old_number place number read n at forth here same short stops is_n =
    let more = tokens_more first text place n short stops (here.between short stops) is_n in
    let got = left_some (tokens first text) read (token_at first text place) (tokens_from first text (place + n)) (at.left ∙ (same ∙ more)) in
    let behind = behind_token first text place n number short is_n here.counted in
    let some = token_len text place n short stops is_n in
    let few = at.few in
    record {
      token = got.0;
      there = got.1;
      after = record {
        fits = at.fits;
        lines_fit = at.lines_fit;
        few = omega arith;
        counted_tokens = omega (arith, got.1);
        left = got.2;
        at_place = record {
          within = behind.0;
          counted = behind.1;
          between = λ inside fails. absurd (true≢false (sym (ends_at_separator text place n short is_n inside) ∙ fails));
        };
      };
    }

-- at the text's end no token is left
pub no_token : (first : ℕ) (text : List ℕ) (old old_number place read : ℕ) → IsAtToken first text old old_number read → tokens_from first text old ≡ tokens_from first text place → length text ≤ place → (slice_get (tokens first text) read ≡ None) × (read ≡ length (tokens first text))
no_token first text old old_number place read at same end =
    let none = left_none (tokens first text) read (at.left ∙ (same ∙ tokens_none first text place end)) in
    let counted = at.counted_tokens in
    (none.0, omega (arith, none.1))

-- the same place after separators
pub still_at : (first : ℕ) (text : List ℕ) (old old_number place number read : ℕ) → IsAtToken first text old old_number read → old ≤ place → IsBetweenTokens first text place number → tokens_from first text old ≡ tokens_from first text place → IsAtToken first text place number read
still_at first text old old_number place number read at forth here same =
    let few = at.few in
    record { fits = at.fits; lines_fit = at.lines_fit; few = omega arith; counted_tokens = at.counted_tokens; left = at.left ∙ same; at_place = here }
