-- Steps along the words of a line.
use Rattle.std.proofs.Common.{◌≡◌, ℕ, ◌+◌, ◌<◌, ◌≤◌, false, List, [], ◌∷◌, length, take, drop, Some, None, arith, ltb}
use Rattle.std.specs.Prelude.{position}
use Rattle.std.specs.List.{position_or_len}
use Rattle.std.proofs.lemmas.Option.{cond_some}
use Rattle.std.proofs.lemmas.Bool.Decides.{nat_tests}
use Rattle.std.proofs.lemmas.List.Elements.{All-from_get_or}
use Rattle.std.proofs.lemmas.List.Splits.{slice_split_first, slice_split_none}
use Rattle.std.proofs.lemmas.List.Sums.{fails_before_first}
use Rattle.lux_lines.specs.Words.{is_blank, words}

-- where a blank is left, the word before it and the words behind it
pub words_more : (line : List ℕ) (k : ℕ) → position is_blank line ≡ Some k → words line ≡ take k line ∷ words (drop (k + 1) line)
words_more line k h =
    let found = cond_some (ltb (position_or_len is_blank line) (length line)) (position_or_len is_blank line) k h in
    let inside : position_or_len is_blank line < length line = grind (arith, nat_tests) in
    rw found.1 at (slice_split_first is_blank line 0 inside)

-- where no blank is left, the last word
pub words_last : (line : List ℕ) → position is_blank line ≡ None → words line ≡ line ∷ []
words_last line h =
    let past : length line ≤ position_or_len is_blank line = grind (arith, nat_tests) in
    slice_split_none is_blank line (All-from_get_or (λ (byte : ℕ). is_blank byte ≡ false) line 0 (λ k inside. fails_before_first is_blank line k 0 (omega arith)))
