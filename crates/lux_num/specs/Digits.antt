-- The parts of a text that may be a number: a sign, digits with at most one point, and what stands behind them.
use Rattle.std.specs.Prelude.{ℕ, ◌+◌, ◌-◌, ◌*◌, ◌==◌, ◌||◌, ◌&&◌, nat_le, Bool, if◌then◌else◌, List, [], ◌++◌, drop, fold, length, slice_index, ℤ, pos, neg_ℤ}
use Rattle.std.specs.List.{list_all, prefix_len, take_while}
use Rattle.std.specs.Char.{is_ascii_digit}

-- what digits say in base ten
abbrev pub digits_value : List ℕ → ℕ
digits_value digits = fold (λ value digit. 10 * value + (digit - 48)) 0 digits

-- without a `+` or `-` in front
abbrev pub behind_sign : List ℕ → List ℕ
behind_sign text = if (slice_index text 0 == 43) || (slice_index text 0 == 45) then drop 1 text else text

-- a `-` stands in front
abbrev pub has_minus : List ℕ → Bool
has_minus text = slice_index text 0 == 45

-- the digits that a text begins with
abbrev pub front_digits : List ℕ → List ℕ
front_digits text = take_while is_ascii_digit text

-- what stands behind the digits that a text begins with
abbrev pub behind_digits : List ℕ → List ℕ
behind_digits text = drop (prefix_len is_ascii_digit text) text

-- a point stands in front
abbrev pub has_point : List ℕ → Bool
has_point text = slice_index text 0 == 46

-- the digits before the point
unfoldable pub whole_digits : List ℕ → List ℕ
whole_digits text = front_digits (behind_sign text)

-- the digits behind the point
unfoldable pub fraction_digits : List ℕ → List ℕ
fraction_digits text = if has_point (behind_digits (behind_sign text)) then front_digits (drop 1 (behind_digits (behind_sign text))) else []

-- what stands behind sign, digits and point
unfoldable pub tail : List ℕ → List ℕ
tail text = if has_point (behind_digits (behind_sign text)) then behind_digits (drop 1 (behind_digits (behind_sign text))) else behind_digits (behind_sign text)

-- all digits
abbrev pub digits : List ℕ → List ℕ
digits text = whole_digits text ++ fraction_digits text

-- nothing, or an exponent letter in front
abbrev pub may_be_exponent : List ℕ → Bool
may_be_exponent text = (length text == 0) || (slice_index text 0 == 69) || (slice_index text 0 == 101)

-- nothing, or a byte, an optional sign, and one or two digits to the end
abbrev pub is_exponent : List ℕ → Bool
is_exponent text =
    (length text == 0)
    || (list_all is_ascii_digit (behind_sign (drop 1 text)) && nat_le 1 (length (behind_sign (drop 1 text))) && nat_le (length (behind_sign (drop 1 text))) 2)

-- what an exponent says, nothing being 0
unfoldable pub exponent_value : List ℕ → ℤ
exponent_value text =
    if has_minus (drop 1 text) then neg_ℤ (pos (digits_value (behind_sign (drop 1 text)))) else pos (digits_value (behind_sign (drop 1 text)))
