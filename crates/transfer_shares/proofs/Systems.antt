-- The flux system of a room is accepted.
use Rattle.std.proofs.Common.{◌≡◌, ℕ, zero, suc, ◌+◌, ◌*◌, ◌<◌, ◌≤◌, true, List, [], length, get_or, Option, None, refl, sym, ◌∙◌, ap, arith}
use Rattle.std.specs.Prelude.{All}
use Rattle.std.specs.List.{sum}
use Rattle.std.proofs.lemmas.List.{get_or-map, length-map}
use Rattle.std.proofs.lemmas.List.Elements.{All-same}
use Rattle.duties.specs.Duties.{first, each}
use Rattle.duties.proofs.Orders.{each_none, each_more}
use Rattle.room_patches.specs.Rooms.{Room}
use Rattle.room_patches.specs.declared.patch.Patch.{Patch}
use Rattle.room_patches.specs.Patches.{patches, IsPatch}
use Rattle.flux_system.specs.System.{row_total}
use Rattle.flux_system.specs.Validity.{reflectance_duty, row_duty, system_duties}
use Rattle.flux_system.proofs.Tests.{size_met, threshold_met, reflectance_met, row_met, rows_decide}
use Rattle.transfer_shares.specs.Shares.{weight, weights, weight_share, shares_of, share_row_from, all_shares, reflectances_of, room_system}
use Rattle.transfer_shares.proofs.RowPlaces.{length-rows, total-in_rows}
use Rattle.transfer_shares.proofs.Totals.{shares_of-le}

each_all : {F : Type 0} (duty : ℕ → Option F) (n : ℕ) → ((i : ℕ) → i < n → duty i ≡ None) → each n duty ≡ None
each_all duty zero h = each_none duty
each_all duty (suc n) h = let more : suc n ≡ n + 1 = omega arith in rw more (each_more duty n (each_all duty n (λ i l. h i (omega arith))) ∙ h n (omega arith))

-- what stands for a patch past the last one
no_patch : Patch
no_patch = record { centre = []; axis = 0; rising = true; area = 0; reflectance = 0 }

module _ (room : Room) where
  length-reflectances : length (reflectances_of room) ≡ length (patches room)
  unfolding reflectances_of
  length-reflectances = length-map (patches room) (λ (patch : Patch). patch.reflectance)

  length-row : (from : Patch) → length (share_row_from room from) ≡ length (reflectances_of room)
  unfolding shares_of
  length-row from = length-map (weights room from) (weight_share (sum (weights room from))) ∙ (length-map (patches room) (weight from) ∙ sym length-reflectances)

  square : length (all_shares room) ≡ length (reflectances_of room) * length (reflectances_of room)
  unfolding all_shares
  square = length-rows (share_row_from room) (length (reflectances_of room)) length-row (patches room) ∙ ap (λ (k : ℕ). k * length (reflectances_of room)) (sym length-reflectances)

  pub length-all_shares : (n : ℕ) → n ≡ length (patches room) → length (all_shares room) ≡ n * n
  length-all_shares n is = let long = length-reflectances in square ∙ (λ k. (long ∙ sym is) k * (long ∙ sym is) k)

  total-le : (threshold i : ℕ) → i < length (patches room) → row_total (room_system room threshold) i ≤ 999999999
  unfolding all_shares
  total-le threshold i h =
      let total = total-in_rows (share_row_from room) (length (reflectances_of room)) length-row (patches room) i no_patch h in
      let le = shares_of-le (weights room (get_or (patches room) i no_patch)) in
      omega arith

  reflectance-le : (i : ℕ) → All IsPatch (patches room) → i < length (patches room) → get_or (reflectances_of room) i 0 ≤ 950
  unfolding reflectances_of
  reflectance-le i valid h =
      let at = get_or-map (λ (patch : Patch). patch.reflectance) (patches room) i no_patch 0 h in
      let limited = (valid i no_patch h).reflectance in
      omega arith

  pub system_accepted : (n : ℕ) (all : List Patch) → n ≡ length (patches room) → 1 ≤ n → n ≤ 4096 → all ≡ patches room → All IsPatch all → (threshold : ℕ) → 1 ≤ threshold → threshold ≤ 10000000000000000 → first (system_duties (room_system room threshold)) ≡ None
  system_accepted n all n_is some few all_is valid threshold positive limited =
      let s = room_system room threshold in
      let long = length-reflectances in
      let each_valid = All-same IsPatch (patches room) all (sym all_is) valid in
      rows_decide s (size_met s (omega arith) (omega arith) square) (threshold_met s positive limited)
      (each_all (reflectance_duty s) (length (reflectances_of room)) (λ i h. reflectance_met s i _ refl (reflectance-le i each_valid (omega arith))))
      ∙ each_all (row_duty s) (length (reflectances_of room)) (λ i h. row_met s i _ refl (let le = total-le threshold i (omega arith) in omega arith))
