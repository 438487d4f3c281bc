-- Picks: which place of a list is chosen among those whose value reaches a threshold, by three rules, and what any rule owes.
use Rattle.std.specs.Prelude.{ℕ, ◌+◌, ◌*◌, ◌%◌, ◌^◌, ◌<◌, ◌≤◌, ◌==◌, ◌&&◌, Bool, if◌then◌else◌, nat_lt, nat_le, List, ◌++◌, drop, take, length, slice_index, position, IfSome, IfNone}
use Rattle.std.specs.Option.{option_map, option_or}
use Rattle.std.specs.declared.option.Option.{Option}
use Rattle.std.specs.declared.option.Option.TheVariants.{None, Some}
use Rattle.std.specs.List.{range_with_len}
use Rattle.picker.specs.Greatest.{greatest_value, greatest_place}

-- a value reaches a threshold
abbrev pub reaches : ℕ → ℕ → Bool
reaches threshold value = nat_le threshold value

-- the first place whose value reaches the threshold, if any does
abbrev pub first_reaching : List ℕ → ℕ → Option ℕ
first_reaching values threshold = position (reaches threshold) values

-- the first place of the greatest value, where there is one and it reaches the threshold
abbrev pub greatest_pick : List ℕ → ℕ → Option ℕ
greatest_pick values threshold = if nat_lt 0 (length values) && reaches threshold (greatest_value values) then Some (greatest_place values) else None

-- the place where a sweep from an offset begins
abbrev pub sweep_start : ℕ → List ℕ → ℕ
sweep_start offset values = offset % length values

-- the values in the order of that sweep: from its beginning to the end, and then those before
abbrev pub turned : ℕ → List ℕ → List ℕ
turned offset values = drop (sweep_start offset values) values ++ take (sweep_start offset values) values

-- the first place in the order of that sweep whose value reaches the threshold, if any does
abbrev pub sweep_pick : ℕ → List ℕ → ℕ → Option ℕ
sweep_pick offset values threshold = option_map (λ place. (sweep_start offset values + place) % length values) (first_reaching (turned offset values) threshold)

-- the places of a list, in order
abbrev pub places : List ℕ → List ℕ
places values = range_with_len 0 (length values)

-- the first place that is k modulo m and whose value reaches the threshold, if there is one
abbrev pub first_in_stripe : ℕ → ℕ → List ℕ → ℕ → Option ℕ
first_in_stripe k m values threshold = position (λ place. (place % m == k) && reaches threshold (slice_index values place)) (places values)

-- that place, or else the first one whose value reaches the threshold, if any does
abbrev pub striped_pick : ℕ → ℕ → List ℕ → ℕ → Option ℕ
striped_pick k m values threshold = option_or (first_in_stripe k m values threshold) (first_reaching values threshold)

-- what any rule owes: a place whose value reaches the threshold, and none only where no value does
abbrev pub IsPick : List ℕ → ℕ → Option ℕ → Type 0
IsPick values threshold answer = IfSome answer (λ place. (place < length values) × (threshold ≤ slice_index values place)) × IfNone answer ((place : ℕ) → place < length values → slice_index values place < threshold)

-- values that a slice of 64-bit numbers can hold, and a threshold that is such a number: past the end a list shows 0
abbrev pub AreWords : List ℕ → ℕ → Type 0
AreWords values threshold = ((place : ℕ) → slice_index values place < 2 ^ 64) × (8 * length values < 2 ^ 63) × (threshold < 2 ^ 64)
