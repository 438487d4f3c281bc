-- Steps along the lines of a text.
use Rattle.std.proofs.Common.{◌≡◌, ℕ, zero, suc, ◌+◌, ◌-◌, ◌<◌, ◌≤◌, Bool, true, false, List, [], ◌∷◌, length, get_or, take, drop, map, Some, None, refl, sym, ap, ◌∙◌, arith, not, add-one, inl, inr}
use Rattle.std.specs.Prelude.{count_by, position, slice_get}
use Rattle.std.specs.List.{position_or_len}
use Rattle.std.proofs.lemmas.List.{get_or-drop, length-drop}
use Rattle.std.proofs.lemmas.Bool.{cases_lt}
use Rattle.std.proofs.lemmas.Bool.Decides.{nat_tests}
use Rattle.std.proofs.lemmas.List.Sums.{fails_before_first, passes_at_first, count_by_more_no, count_by_more_yes, prefix_len-le-length}
use Rattle.lux_lines.specs.Places.{Piece, is_newline, line_number, places_from}
use Rattle.lux_lines.specs.Lines.{starts_line, line_at, lines_from, lines, line_text}
use Rattle.lux_lines.specs.Cursors.{IsAtLine}

pub places_end : (test : ℕ → Bool) (n p : ℕ) → n ≤ p → places_from test n p ≡ []
places_end test n p h = let e : n - p ≡ 0 = omega arith in rw e refl

pub places_yes : (test : ℕ → Bool) (n p : ℕ) → p < n → test p ≡ true → places_from test n p ≡ p ∷ places_from test n (p + 1)
places_yes test n p h passes =
    let e : n - p ≡ suc (n - (p + 1)) = omega arith in
    rw (e, passes) refl

pub places_no : (test : ℕ → Bool) (n p : ℕ) → p < n → test p ≡ false → places_from test n p ≡ places_from test n (p + 1)
places_no test n p h fails =
    let e : n - p ≡ suc (n - (p + 1)) = omega arith in
    rw (e, fails) refl

pub places_skip : (test : ℕ → Bool) (n p j : ℕ) → p + j ≤ n → ((k : ℕ) → p ≤ k → k < p + j → test k ≡ false) → places_from test n p ≡ places_from test n (p + j)
places_skip test n p zero h fails = let e : p + 0 ≡ p = omega arith in ap (places_from test n) (sym e)
places_skip test n p (suc j) h fails =
    let e : (p + 1) + j ≡ p + suc j = omega arith in
    places_no test n p (omega arith) (fails p (omega arith) (omega arith))
    ∙ (places_skip test n (p + 1) j (omega arith) (λ k a b. fails k (omega arith) (omega arith)) ∙ ap (places_from test n) e)

-- the bytes before the first that passes
pub stretch_fails : (test : ℕ → Bool) (text : List ℕ) (p k : ℕ) → p ≤ k → k < p + position_or_len test (drop p text) → test (get_or text k 0) ≡ false
stretch_fails test text p k low high =
    let fails = fails_before_first test (drop p text) (k - p) 0 (omega arith) in
    let e : p + (k - p) ≡ k = omega arith in
    rw (get_or-drop, e) at fails

pub count_stretch : (test : ℕ → Bool) (text : List ℕ) (p n : ℕ) → p + n ≤ length text → ((k : ℕ) → p ≤ k → k < p + n → test (get_or text k 0) ≡ false) → count_by test (take (p + n) text) ≡ count_by test (take p text)
count_stretch test text p zero h fails = let e : p + 0 ≡ p = omega arith in ap (λ (k : ℕ). count_by test (take k text)) e
count_stretch test text p (suc n) h fails =
    let e : p + suc n ≡ (p + n) + 1 = omega arith in
    ap (λ (k : ℕ). count_by test (take k text)) e
    ∙ (count_by_more_no test text (p + n) 0 (omega arith) (fails (p + n) (omega arith) (omega arith))
    ∙ count_stretch test text p n (omega arith) (λ k a b. fails k a (omega arith)))

pub starts_line_inside : (text : List ℕ) (p k : ℕ) → p < k → k ≤ p + position_or_len is_newline (drop p text) → starts_line text k ≡ false
unfolding starts_line
starts_line_inside text p k a b =
    let e : k ≡ suc (k - 1) = omega arith in
    rw e (stretch_fails is_newline text p (k - 1) (omega arith) (omega arith))

-- from the start of a line, that line and those from behind its LF on
pub lines_more : (text : List ℕ) (p n : ℕ) → p < length text → starts_line text p ≡ true → n ≡ position_or_len is_newline (drop p text) → p + n < length text → lines_from text p ≡ line_at text p ∷ lines_from text (p + (n + 1))
unfolding lines_from
lines_more text p n within starts is_n h =
    let step = places_yes (starts_line text) (length text) p within starts in
    let skip = places_skip (starts_line text) (length text) (p + 1) n (omega arith) (λ k a b. starts_line_inside text p k (omega arith) (omega arith)) in
    let e : (p + 1) + n ≡ p + (n + 1) = omega arith in
    ap (map (line_at text)) (step ∙ ap (λ (r : List ℕ). p ∷ r) (skip ∙ ap (places_from (starts_line text) (length text)) e))

-- the last line
pub lines_last : (text : List ℕ) (p n : ℕ) → p < length text → starts_line text p ≡ true → n ≡ position_or_len is_newline (drop p text) → p + n ≡ length text → lines_from text p ≡ line_at text p ∷ lines_from text (p + n)
unfolding lines_from
lines_last text p n within starts is_n h =
    let step = places_yes (starts_line text) (length text) p within starts in
    let skip = places_skip (starts_line text) (length text) (p + 1) (n - 1) (omega arith) (λ k a b. starts_line_inside text p k (omega arith) (omega arith)) in
    let e : (p + 1) + (n - 1) ≡ p + n = omega arith in
    ap (map (line_at text)) (step ∙ ap (λ (r : List ℕ). p ∷ r) (skip ∙ ap (places_from (starts_line text) (length text)) e))

pub lines_none : (text : List ℕ) (p : ℕ) → length text ≤ p → lines_from text p ≡ []
unfolding lines_from
lines_none text p h = ap (map (line_at text)) (places_end (starts_line text) (length text) p h)

-- behind the LF of the line at p
pub behind_line : (text : List ℕ) (p n number : ℕ) → n ≡ position_or_len is_newline (drop p text) → p + n < length text → number ≡ line_number text p → (number + 1 ≡ line_number text (p + (n + 1))) × (starts_line text (p + (n + 1)) ≡ true)
unfolding starts_line
behind_line text p n number is_n h counted =
    let e : p + (n + 1) ≡ (p + n) + 1 = omega arith in
    let stop : n < length (drop p text) = simp length-drop (omega arith) in
    let found = passes_at_first is_newline (drop p text) 0 (let s : position_or_len is_newline (drop p text) < length (drop p text) = omega arith in s) in
    let newline : is_newline (get_or text (p + n) 0) ≡ true = rw (is_n, ← get_or-drop p text (position_or_len is_newline (drop p text)) 0) found in
    let more = count_by_more_yes is_newline text (p + n) 0 h newline in
    let same = count_stretch is_newline text p n (omega arith) (λ k a b. stretch_fails is_newline text p k a (omega arith)) in
    let up : number + 1 ≡ 1 + count_by is_newline (take ((p + n) + 1) text) = omega arith in
    (rw e up, rw (e, add-one) newline)

pub first_within : (test : ℕ → Bool) (text : List ℕ) (p n : ℕ) → p ≤ length text → n ≡ position_or_len test (drop p text) → p + n ≤ length text
first_within test text p n within is_n = omega (arith, prefix_len-le-length (λ b. not (test b)) (drop p text), length-drop p text)

pub ends : (text : List ℕ) (p : ℕ) {n : ℕ} → n ≡ position_or_len is_newline (drop p text) → p < length text → length text - p ≤ n → p + n ≡ length text
ends text p {n} is_n within h = omega (arith, first_within is_newline text p n (omega arith) is_n)

pub position_none_len : (test : ℕ → Bool) (xs : List ℕ) → position test xs ≡ None → length xs ≡ position_or_len test xs
position_none_len test xs h = let past : length xs ≤ position_or_len test xs = grind (arith, nat_tests) in omega (arith, prefix_len-le-length (λ b. not (test b)) xs)

-- the first piece of what is left of a list is the one at its place
pub left_some : {X : Type 0} (xs : List X) (k : ℕ) (x : X) (left : List X) → drop k xs ≡ x ∷ left → (slice_get xs k ≡ Some x) × (k < length xs) × (drop (k + 1) xs ≡ left)
left_some [] zero x left h = absurd (cc)
left_some [] (suc k) x left h = absurd (cc)
left_some (y ∷ xs) zero x left h = (cc, omega arith, cc)
left_some (y ∷ xs) (suc k) x left h =
    let more = left_some xs k x left h in
    (more.0, omega arith, rw add-one (rw add-one at more.2))

-- where nothing is left of a list, its end is reached
pub left_none : {X : Type 0} (xs : List X) (k : ℕ) → drop k xs ≡ [] → (slice_get xs k ≡ None) × (length xs ≤ k)
left_none [] zero h = (refl, omega arith)
left_none [] (suc k) h = (refl, omega arith)
left_none (y ∷ xs) zero h = absurd (cc)
left_none (y ∷ xs) (suc k) h = let more = left_none xs k h in (more.0, omega arith)

-- the bytes of a line
pub line_text_at : (text : List ℕ) (k : ℕ) (line : Piece) → slice_get (lines text) k ≡ Some line → line_text text k ≡ line.text
unfolding line_text
line_text_at text k line h = rw h refl

-- no bytes where no line is
pub line_text_none : (text : List ℕ) (k : ℕ) → slice_get (lines text) k ≡ None → line_text text k ≡ []
unfolding line_text
line_text_none text k h = rw h refl

-- what reading a line shows: the line, and where the reader stands behind it
pub record IsStep (text : List ℕ) (place read next : ℕ) : Type 0 where
  pub line : slice_get (lines text) read ≡ Some (line_at text place)
  pub there : read < length (lines text)
  pub after : IsAtLine text next (read + 1)

-- a line that ends by LF
pub step_inside : (text : List ℕ) (place n read : ℕ) → IsAtLine text place read → n ≡ position_or_len is_newline (drop place text) → place + n < length text → IsStep text place read (place + (n + 1))
step_inside text place n read at is_n h =
    let short : place < length text = omega arith in
    let here = left_some (lines text) read (line_at text place) (lines_from text (place + (n + 1))) (at.left ∙ lines_more text place n short (at.at_start short) is_n h) in
    let behind = behind_line text place n (read + 1) is_n h (at.counted short) in
    record {
      line = here.0;
      there = here.1;
      after = record { fits = at.fits; within = omega arith; few = let few = at.few in omega arith; left = here.2; counted = λ _. behind.0; at_start = λ _. behind.1 };
    }

-- a line that the text's end ends
pub step_last : (text : List ℕ) (place n read : ℕ) → IsAtLine text place read → place < length text → n ≡ position_or_len is_newline (drop place text) → length text - place ≤ n → IsStep text place read (place + n)
step_last text place n read at short is_n h =
    let end = ends text place is_n short h in
    let here = left_some (lines text) read (line_at text place) (lines_from text (place + n)) (at.left ∙ lines_last text place n short (at.at_start short) is_n end) in
    record {
      line = here.0;
      there = here.1;
      after = record { fits = at.fits; within = omega arith; few = let few = at.few in omega arith; left = here.2; counted = λ more. absurd (omega arith); at_start = λ more. absurd (omega arith) };
    }

-- at the text's end no line is left
pub no_line : (text : List ℕ) (place read : ℕ) → IsAtLine text place read → length text ≤ place → (slice_get (lines text) read ≡ None) × (length (lines text) ≤ read)
no_line text place read at h = left_none (lines text) read (at.left ∙ lines_none text place h)

-- before the text's end a line is left
pub line_there : (text : List ℕ) (place read : ℕ) → IsAtLine text place read → place < length text → (slice_get (lines text) read ≡ Some (line_at text place)) × (read < length (lines text))
line_there text place read at short =
    let n = position_or_len is_newline (drop place text) in
    let within = first_within is_newline text place n (omega arith) refl in
    elim (cases_lt (place + n) (length text)) [
      | inl inside ↦ let step = step_inside text place n read at refl inside in (step.line, step.there)
      | inr last ↦ let step = step_last text place n read at short refl (omega arith) in (step.line, step.there)
    ]
