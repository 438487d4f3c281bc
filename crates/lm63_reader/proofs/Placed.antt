-- Where the lines of a text stand.
use Rattle.std.proofs.Common.{◌≡◌, ℕ, zero, suc, ◌+◌, ◌-◌, ◌<◌, ◌≤◌, Bool, true, false, cond, List, [], ◌∷◌, Some, length, map, take, drop, refl, sym, arith, subst}
use Rattle.std.specs.Prelude.{slice_get, slice_index, find, filter, ◌==◌}
use Rattle.std.specs.List.{range_with_len, before_first, position_or_len}
use Rattle.std.proofs.lemmas.List.{length-drop, length-take}
use Rattle.std.proofs.lemmas.List.Sums.{count_by-le-length}
use Rattle.lux_lines.specs.Places.{Piece, is_newline}
use Rattle.lux_lines.specs.Lines.{lines, lines_from, line_at, starts_line, without_return}
use Rattle.lm63_reader.specs.Front.{is_tilt, tilt_line}

-- a fact of each element
abbrev Each : (Piece → Type 0) → List Piece → Type 0
Each P xs = (k : ℕ) (x : Piece) → slice_get xs k ≡ Some x → P x

-- a piece is the one of some number below an end
abbrev IsOfBelow : (ℕ → Piece) → ℕ → Piece → Type 0
IsOfBelow f end x = (q : ℕ) × (q < end) × (x ≡ f q)

each_none : (P : Piece → Type 0) → Each P []
each_none P zero x h = absurd (cc)
each_none P (suc k) x h = absurd (cc)

each_more : (P : Piece → Type 0) (y : Piece) (ys : List Piece) → P y → Each P ys → Each P (y ∷ ys)
each_more P y ys here rest zero x h = let e : y ≡ x = cc in subst P e here
each_more P y ys here rest (suc k) x h = rest k x h

-- the pieces of some numbers in a range
each_in_range : (f : ℕ → Piece) (passes : ℕ → Bool) (from n end : ℕ) → from + n ≤ end → Each (IsOfBelow f end) (map f (filter passes (range_with_len from n)))
each_in_range f passes from zero end h = each_none (IsOfBelow f end)
each_in_range f passes from (suc n) end h =
    let rest = each_in_range f passes (from + 1) n end (omega arith) in
    elim (passes from) as (λ (v : Bool). Each (IsOfBelow f end) (map f (cond v (from ∷ filter passes (range_with_len (from + 1) n)) (filter passes (range_with_len (from + 1) n))))) [
      | true ↦ each_more (IsOfBelow f end) (f from) (map f (filter passes (range_with_len (from + 1) n))) (from, omega arith, refl) rest
      | false ↦ rest
    ]

each_behind : (P : Piece → Type 0) (xs : List Piece) → Each P xs → Each P (drop 1 xs)
each_behind P [] all = all
each_behind P (y ∷ ys) all = λ k x h. all (suc k) x h

of_found : (P : Piece → Type 0) (test : Piece → Bool) (xs : List Piece) (x : Piece) → Each P xs → find test xs ≡ Some x → P x
of_found P test [] x all h = absurd (cc)
of_found P test (y ∷ ys) x all h =
    let later = of_found P test ys x (λ k z e. all (suc k) z e) in
    let first = all zero y refl in
    by_test (test y) first later h
  where
    by_test : (v : Bool) → P y → (find test ys ≡ Some x → P x) → cond v (Some y) (find test ys) ≡ Some x → P x
    by_test true here later e = let same : y ≡ x = cc in subst P same here
    by_test false here later e = later e

-- the TILT line is the line at some place
tilt_place : (text : List ℕ) (x : Piece) → tilt_line text ≡ Some x → IsOfBelow (line_at text) (length text) x
unfolding tilt_line lines lines_from
tilt_place text x h =
    of_found (IsOfBelow (line_at text) (length text)) is_tilt (drop 1 (lines text)) x
    (each_behind (IsOfBelow (line_at text) (length text)) (lines text) (each_in_range (line_at text) (starts_line text) 0 (length text - 0) (length text) (omega arith))) h

-- it ends within the text, and its number is no greater than the text's length
pub record IsWithin (text : List ℕ) (x : Piece) : Type 0 where
  pub ends : x.start + length x.text ≤ length text
  pub number : x.number ≤ length text

short_return : (line : List ℕ) → length (without_return line) ≤ length line
short_return line = by_test (slice_index line (length line - 1) == 13)
  where
    by_test : (v : Bool) → length (cond v (take (length line - 1) line) line) ≤ length line
    by_test true = omega (arith, length-take (length line - 1) line)
    by_test false = omega arith

line_within : (text : List ℕ) (q : ℕ) → q < length text → IsWithin text (line_at text q)
unfolding line_at
line_within text q inside =
    let content = before_first is_newline (drop q text) in
    let short = short_return (before_first is_newline (drop q text)) in
    let front = length-take (position_or_len is_newline (drop q text)) (drop q text) in
    let rest = length-drop q text in
    let counted = count_by-le-length is_newline (take q text) in
    let taken = length-take q text in
    record { ends = omega arith; number = omega arith }

pub tilt_within : (text : List ℕ) (x : Piece) → tilt_line text ≡ Some x → IsWithin text x
tilt_within text x h = let at = tilt_place text x h in subst (IsWithin text) (sym at.2) (line_within text at.0 at.1)
