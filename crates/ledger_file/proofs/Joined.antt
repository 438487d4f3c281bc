-- The lines of a text that is made of lines.
use Rattle.std.proofs.Common.{◌≡◌, ℕ, suc, ◌+◌, ◌-◌, ◌<◌, ◌==◌, ◌&&◌, not, Bool, true, false, List, [], ◌∷◌, ◌++◌, map, length, slice_index, take, drop, refl, sym, ap, ◌∙◌, arith}
use Rattle.std.specs.Prelude.{slice_get, unwrap_or}
use Rattle.std.specs.List.{list_all, position_or_len, before_first}
use Rattle.std.proofs.Math.Seq.{drop-append-add, take-append_seam}
use Rattle.std.proofs.lemmas.Grind.{common_steps}
use Rattle.std.proofs.lemmas.List.{drop-drop, length-append, length-drop, length-map}
use Rattle.std.proofs.lemmas.List.Folds.{list_all_at}
use Rattle.std.proofs.lemmas.Option.{slice_get-map}
use Rattle.lux_lines.specs.Places.{Piece, is_newline, line_number}
use Rattle.lux_lines.specs.Lines.{starts_line, without_return, line_at, lines_from, lines, line_text}
use Rattle.lux_lines.proofs.Steps.{lines_more, lines_none, behind_line}

-- neither LF nor CR
abbrev pub is_plain : ℕ → Bool
is_plain byte = not (byte == 10) && not (byte == 13)

abbrev pub IsPlainLine : List ℕ → Type 0
IsPlainLine line = list_all is_plain line ≡ true

abbrev pub ArePlainLines : List (List ℕ) → Type 0
ArePlainLines others = list_all (list_all is_plain) others ≡ true

-- lines, each ended by LF
abbrev pub joined : List (List ℕ) → List ℕ
joined [] = []
joined (line ∷ others) = line ++ 10 ∷ joined others

both : (a b : Bool) → (a && b) ≡ true → (a ≡ true) × (b ≡ true)
both true b h = (refl, h)
both false b h = absurd (cc)

-- a plain line goes up to the LF behind it
line_len : (line rest : List ℕ) → IsPlainLine line → position_or_len is_newline (line ++ 10 ∷ rest) ≡ length line
line_len [] rest plain = refl
line_len (x ∷ line) rest plain =
    let here = both (is_plain x) (list_all is_plain line) plain in
    let apart : is_newline x ≡ false = grind (arith, common_steps, here.0) in
    rw (apart, line_len line rest here.1) (let e : 1 + length line ≡ suc (length line) = omega arith in e)

-- it has no CR at its end
keeps : (line : List ℕ) → IsPlainLine line → without_return line ≡ line
keeps [] plain = refl
keeps (x ∷ line) plain = by (is_plain (slice_index (x ∷ line) (length (x ∷ line) - 1))) refl
  where
    by : (b : Bool) → is_plain (slice_index (x ∷ line) (length (x ∷ line) - 1)) ≡ b → without_return (x ∷ line) ≡ x ∷ line
    by true is = let apart : (slice_index (x ∷ line) (length (x ∷ line) - 1) == 13) ≡ false = grind (arith, common_steps, is) in rw apart refl
    by false is = absurd (let no = list_all_at is_plain (x ∷ line) (length (x ∷ line) - 1) 0 (omega arith) is in cc)

-- the line at a place from which on the text is such lines
first_text : (line : List ℕ) (others : List (List ℕ)) (text : List ℕ) (place : ℕ) → drop place text ≡ joined (line ∷ others) → IsPlainLine line → (line_at text place).text ≡ line
unfolding line_at
first_text line others text place is here =
    ap (λ (rest : List ℕ). without_return (before_first is_newline rest)) is
    ∙ (ap (λ (n : ℕ). without_return (take n (line ++ 10 ∷ joined others))) (line_len line (joined others) here)
    ∙ (ap without_return (take-append_seam line (10 ∷ joined others)) ∙ keeps line here))

-- from a place on the text is such lines: those are its lines from there on
lines_there : (others : List (List ℕ)) (text : List ℕ) (place : ℕ) → drop place text ≡ joined others → (place < length text → starts_line text place ≡ true) → ArePlainLines others
    → map (λ (line : Piece). line.text) (lines_from text place) ≡ others
lines_there [] text place is starts plain =
    let len = ap (λ (l : List ℕ). length l) is in
    rw (lines_none text place (omega (arith, len, length-drop place text))) refl
lines_there (line ∷ others) text place is starts plain =
    let all = both (list_all is_plain line) (list_all (list_all is_plain) others) plain in
    let here = all.0 in
    let n = length line in
    let len : n + suc (length (joined others)) ≡ length text - place = sym (length-append line (10 ∷ joined others)) ∙ (sym (ap (λ (l : List ℕ). length l) is) ∙ length-drop place text) in
    let within : place < length text = omega arith in
    let is_n : n ≡ position_or_len is_newline (drop place text) = sym (ap (position_or_len is_newline) is ∙ line_len line (joined others) here) in
    let inside : place + n < length text = omega arith in
    let more = lines_more text place n within (starts within) is_n inside in
    let behind = behind_line text place n (line_number text place) is_n inside refl in
    let next : drop (place + (n + 1)) text ≡ joined others = sym (drop-drop (n + 1) place text) ∙ (ap (drop (n + 1)) is ∙ drop-append-add line (10 ∷ joined others) 1) in
    ap (map (λ (piece : Piece). piece.text)) more ∙ (λ k. first_text line others text place is here k ∷ lines_there others text (place + (n + 1)) next (λ _. behind.1) all.1 k)

-- such lines are the lines of their text
module _ (others : List (List ℕ)) (plain : ArePlainLines others) where
  texts : map (λ (line : Piece). line.text) (lines (joined others)) ≡ others
  unfolding lines starts_line
  texts = lines_there others (joined others) 0 refl (λ some. refl) plain

  pub line_count : length (lines (joined others)) ≡ length others
  line_count = sym (length-map (lines (joined others)) (λ (line : Piece). line.text)) ∙ ap (λ (l : List (List ℕ)). length l) texts

  pub line_is : (k : ℕ) → line_text (joined others) k ≡ unwrap_or (slice_get others k) []
  unfolding line_text
  line_is k = ap (λ (found : _). unwrap_or found []) (sym (slice_get-map (λ (line : Piece). line.text) (lines (joined others)) k) ∙ ap (λ (l : List (List ℕ)). slice_get l k) texts)
