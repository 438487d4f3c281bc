-- Bands: whole rows of the shares of a room.
use Rattle.std.proofs.Common.{◌≡◌, ℕ, ◌+◌, ◌-◌, ◌*◌, ◌/◌, ◌%◌, ◌<◌, ◌≤◌, min, ◌⊎◌, inl, inr, List, length, get_or, take, drop, map, refl, sym, ◌∙◌, ap, arith}
use Rattle.std.specs.List.{flat_map}
use Rattle.std.proofs.Math.Nat.{le_of_mul-le-mul_right, mul-mod_left, add-mul-mod_self_right}
use Rattle.std.proofs.lemmas.Bool.{cases_lt}
use Rattle.std.proofs.lemmas.Nat.{div-add-mod'}
use Rattle.std.proofs.lemmas.List.{get_or-take, get_or-drop, take_all, length-map}
use Rattle.room_patches.specs.Rooms.{Room}
use Rattle.room_patches.specs.declared.patch.Patch.{Patch}
use Rattle.room_patches.specs.Patches.{patches}
use Rattle.transfer_shares.specs.Shapes.{IsBand}
use Rattle.transfer_shares.specs.Shares.{weight, shares_of, share_row_from, all_shares}
use Rattle.transfer_shares.proofs.RowPlaces.{rows-between}
use Rattle.transfer_shares.proofs.Systems.{length-all_shares}

module _ (n start many : ℕ) (some : 1 ≤ n) (band : IsBand n start many) where
  first-is : start / n * n ≡ start
  first-is = let cut = div-add-mod' start n in let whole = band.from_a_row in omega arith

  many-is : many / n * n ≡ many
  many-is = let cut = div-add-mod' many n in let whole = band.whole_rows in omega arith

  within : start / n + many / n ≤ n
  within =
      let before = first-is in
      let rows = many-is in
      let inside = band.inside in
      le_of_mul-le-mul_right {k = n} (omega arith) some

-- a band lies within the rows
pub rows_within : (room : Room) (n start many : ℕ) (all : List Patch) → all ≡ patches room → n ≡ length (patches room) → 1 ≤ n → IsBand (length (patches room)) start many → start / n + many / n ≤ length all
rows_within room n start many all all_is n_is some band =
    let le = within n start many some (rw n_is band) in
    let long = ap length all_is in
    omega arith

length-row : (room : Room) (from : Patch) → length (share_row_from room from) ≡ length (patches room)
unfolding shares_of
length-row room from = length-map (map (weight from) (patches room)) _ ∙ length-map (patches room) (weight from)

-- the rows of a band, one behind the other, are a part of all shares
pub rows_are_part : (room : Room) (n start many : ℕ) (all : List Patch) → all ≡ patches room → n ≡ length (patches room) → 1 ≤ n → IsBand (length (patches room)) start many → flat_map (λ from. shares_of (map (weight from) all)) (take (start / n + many / n - start / n) (drop (start / n) all)) ≡ take many (drop start (all_shares room))
unfolding all_shares
rows_are_part room n start many all all_is n_is some given =
    let band : IsBand n start many = rw n_is given in
    let le = within n start many some band in
    let row : Patch → List ℕ = share_row_from room in
    let each : (from : Patch) → length (row from) ≡ n = λ from. length-row room from ∙ sym n_is in
    let between = rows-between row n each (patches room) (start / n) (many / n) (omega arith) in
    let count : start / n + many / n - start / n ≡ many / n = omega arith in
    (λ k. flat_map (λ from. shares_of (map (weight from) (all_is k))) (take (count k) (drop (start / n) (all_is k))))
    ∙ sym between
    ∙ (λ k. take (many-is n start many some band k) (drop (first-is n start many some band k) (flat_map row (patches room))))

pub length-all : (room : Room) (many : ℕ) → many ≡ length (patches room) * length (patches room) → length (all_shares room) ≡ many
length-all room many is = length-all_shares room (length (patches room)) refl ∙ sym is

-- one band of all rows
pub whole-part : (room : Room) (many : ℕ) → many ≡ length (patches room) * length (patches room) → take many (drop 0 (all_shares room)) ≡ all_shares room
whole-part room many is = take_all many (all_shares room) (let long = length-all room many is in omega arith)

multiple : (n k before many : ℕ) → (many ≡ k * n) ⊎ (many + before * n ≡ n * n) → many % n ≡ 0
multiple n k before many (inl e) = rw e (mul-mod_left k n)
multiple n k before many (inr e) = sym (add-mul-mod_self_right many before n) ∙ (ap (λ (x : ℕ). x % n) e ∙ mul-mod_left n n)

full_or_rest : (k n rest : ℕ) → (k * n < rest) ⊎ (rest ≤ k * n) → (many : ℕ) → many ≡ min (k * n) rest → (many ≡ k * n) ⊎ (many ≡ rest)
full_or_rest k n rest (inl h) many e = inl (omega arith)
full_or_rest k n rest (inr h) many e = inr (omega arith)

-- a chunk of some rows, or the rows that are left
pub chunk-band : (room : Room) (n k start many total : ℕ) → n ≡ length (patches room) → total ≡ length (patches room) * length (patches room) → start % (k * n) ≡ 0 → many ≡ min (k * n) (total - start) → start + many ≤ total → IsBand (length (patches room)) start many
chunk-band room n k start many total n_is total_is aligned many_is inside =
    let whole : total ≡ n * n = total_is ∙ (λ i. sym n_is i * sym n_is i) in
    let q : ℕ = start / (k * n) in
    let cut = div-add-mod' start (k * n) in
    let start_is : start ≡ q * k * n = omega arith in
    let rows : (many ≡ k * n) ⊎ (many + q * k * n ≡ n * n) =
    elim (full_or_rest k n (total - start) (cases_lt _ _) many many_is) [ inl e ↦ inl e | inr e ↦ inr (omega arith) ] in
    rw (← n_is) (record {
      from_a_row = rw start_is (mul-mod_left (q * k) n);
      whole_rows = multiple n k (q * k) many rows;
      inside = rw (← whole) inside;
    })

-- a place of a part is a place of the whole
pub place-in_part : (all part : List ℕ) (start many offset i : ℕ) → part ≡ take many (drop start all) → offset < many → start + offset ≡ i → get_or part offset 0 ≡ get_or all i 0
place-in_part all part start many offset i part_is inside i_is =
    ap (λ (xs : List ℕ). get_or xs offset 0) part_is ∙ (get_or-take many (drop start all) offset 0 inside ∙ (get_or-drop start all offset 0 ∙ ap (λ (k : ℕ). get_or all k 0) i_is))
