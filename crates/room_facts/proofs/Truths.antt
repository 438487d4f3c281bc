-- That what is computed of a lit room is true of its exact light.
use Rattle.std.proofs.Common.{◌≡◌, ℕ, zero, suc, ◌+◌, ◌*◌, ◌<◌, ◌≤◌, ◌^◌, ◌⊎◌, ℤ, pos, ◌≤ℤ◌, List, length, map, [], ◌∷◌, refl, ap, sym, ◌∙◌, subst, arith}
use Rattle.std.specs.Prelude.{All, slice_index, slice_index_or}
use Rattle.std.specs.List.{range_with_len, zip}
use Rattle.std.proofs.lemmas.List.Elements.{All-map}
use Rattle.std.proofs.lemmas.Int.{ints}
use Rattle.std.proofs.lemmas.List.{length-map}
use Rattle.std.proofs.lemmas.List.FromFn.{length-map-range_with_len}
use Rattle.compliance.specs.declared.checks.CheckSpec.{CheckSpec}
use Rattle.compliance.specs.declared.judging.Judged.{Judged}
use Rattle.compliance.specs.Exact.{Fraction, IsBetween, LieWithin}
use Rattle.compliance.specs.Verdict.{IsJudged}
use Rattle.compliance.specs.declared.verdicts.Verdict.{Verdict}
use Rattle.enclosure.specs.Interval as interval
use Rattle.enclosure.specs.Interval.{intervals_of, interval_of, EnclosesAll}
use Rattle.flux_ledger.specs.declared.ledger.Ledger.{Ledger}
use Rattle.flux_system.specs.System as systems
use Rattle.grids.specs.declared.spec.GridSpec.{GridSpec}
use Rattle.grids.specs.Grids.{count, point_at, points}
use Rattle.grids.specs.GridPoint.{direct_at}
use Rattle.lit_room.specs.LitRooms.{Lighting, fixtures_of, system_of, flux_of}
use Rattle.room_patches.specs.declared.patch.Patch.{Patch}
use Rattle.project_file.specs.Projects.{project_room}
use Rattle.room_patches.specs.Rooms.{Room}
use Rattle.room_patches.specs.Patches.{patches}
use Rattle.transfer_shares.specs.Shares.{reflectances_of}
use Rattle.lux_report.specs.Facts.{judged_checks}
use Rattle.room_facts.specs.RoomFacts.{direct_on, check_intervals, answer_by, facts_of}
use Rattle.room_facts.specs.Shapes.{EnclosePoints}
use Rattle.room_facts.specs.Truth.{IsExactFlux, ForExactFlux, exact_point, exact_points, shared_bottom, IsTrueValue, IsTrueCheck, EncloseLight, EncloseFlux}
use Rattle.room_facts.proofs.NumberedPoints.{at, all_numbered}

-- what is between two signed ends is between them
between : (low high top bottom : ℕ) → pos (bottom * low) ≤ℤ pos top → pos top ≤ℤ pos (bottom * high) → IsBetween (low, high) (record { top = top; bottom = bottom })
between low high top bottom above below =
    let a : bottom * low ≤ top = omega (arith, ints) in
    let b : top ≤ bottom * high = omega (arith, ints) in
    let swap_low : low * bottom ≡ bottom * low = omega arith in
    let swap_high : high * bottom ≡ bottom * high = omega arith in
    (rw swap_low a, rw swap_high b)

-- the intervals of a ledger of the room's direct flux enclose the exact flux
pub flux_enclosed : (l : Lighting) (ledger : Ledger) (bounds : List (ℕ × ℕ)) → bounds ≡ intervals_of (system_of l) ledger → ledger.direct ≡ flux_of l → EnclosesAll (system_of l) ledger → EncloseFlux l bounds
flux_enclosed l ledger bounds are direct enclosed j inside num den exact =
    let ends = enclosed j inside (λ i. pos (num i)) den (rw (← direct) at exact) in
    let here : slice_index_or bounds j (0, 0) ≡ interval_of (system_of l) ledger j = rw are (at (interval_of (system_of l) ledger) (systems.patches (system_of l)) j inside) in
    rw here (between (interval.low_end ledger j) (interval.high_end (system_of l) ledger j) (num j) den ends.0 ends.1)

-- the room has as many patches as its system
pub as_many : (l : Lighting) (room : Room) → room ≡ project_room l.project → length (patches room) ≡ systems.patches (system_of l)
unfolding reflectances_of
as_many l room same = rw same (sym (length-map (patches (project_room l.project)) (λ (patch : Patch). patch.reflectance)))

-- there is direct light at each point
pub as_many_points : (l : Lighting) (grid : GridSpec) (direct : List ℕ) → direct ≡ direct_on l grid → length direct ≡ count grid
as_many_points l grid direct is =
    ap length is ∙ (length-map (points grid) (direct_at l.webs (fixtures_of l)) ∙ length-map-range_with_len (point_at grid) 0 (count grid))

module _ (l : Lighting) (grid : GridSpec) (bounds points : List (ℕ × ℕ)) where
  -- the exact light at each point
  pub light_enclosed : EncloseFlux l bounds → EnclosePoints l grid bounds points → EncloseLight l grid points
  light_enclosed flux enclosed g inside num den exact = enclosed g inside num den exact.positive (λ i below. flux i (rw (as_many l (project_room l.project) refl) at below) num den exact)

  -- all values at the points
  pub values_within : length points ≡ count grid → EncloseLight l grid points → ForExactFlux l (λ num den. LieWithin points (exact_points l grid num den) (shared_bottom den))
  values_within many light num den exact =
      let some : 0 < den = exact.positive in
      record {
        positive = omega arith;
        enclosed = all_numbered (λ ends value. IsBetween ends (record { top = value; bottom = shared_bottom den })) (λ g. (exact_point l grid num den g).top) points 0 (count grid) many
            (λ g inside. let same : 0 + g ≡ g = omega arith in rw same (light g inside num den exact));
      }

  pub value_true : (limit : ℕ) (exact : List ℕ → ℕ → Fraction) (ends : ℕ × ℕ) (verdict : Verdict) → length points ≡ count grid → EncloseLight l grid points → IsJudged points limit exact ends verdict → IsTrueValue l grid limit exact ends verdict
  value_true limit exact ends verdict many light judged = record {
    encloses = λ num den flux. judged.encloses (exact_points l grid num den) (shared_bottom den) (values_within many light num den flux);
    decides = λ num den flux. judged.decides (exact_points l grid num den) (shared_bottom den) (values_within many light num den flux);
    open_where = judged.open_where;
  }

-- what a check is answered by a ledger is true
abbrev pub IsTrueBy : Lighting → Ledger → CheckSpec → Type 0
IsTrueBy l ledger check = IsTrueCheck l check (check_intervals l ledger check) (answer_by check (check_intervals l ledger check))

-- some values, each with what two functions make of it
with_both : {X Y Z : Type 0} (f : X → Y) (g : X → Z) (xs : List X) → zip xs (zip (map f xs) (map g xs)) ≡ map (λ x. (x, (f x, g x))) xs
with_both f g [] = refl
with_both f g (x ∷ xs) = ap (λ rest. (x, (f x, g x)) ∷ rest) (with_both f g xs)

pub checks_true : (l : Lighting) (shooters : ℕ) (ledger : Ledger) → All (IsTrueBy l ledger) l.project.checks → All (λ c. IsTrueCheck l c.0 c.1.0 c.1.1) (judged_checks l.project (facts_of l shooters ledger))
checks_true l shooters ledger hold =
    let intervals = check_intervals l ledger in
    let answer = λ (check : CheckSpec). answer_by check (intervals check) in
    rw (with_both intervals answer l.project.checks)
    (All-map (λ (c : CheckSpec × (List (ℕ × ℕ) × Judged)). IsTrueCheck l c.0 c.1.0 c.1.1) (λ (check : CheckSpec). (check, (intervals check, answer check))) l.project.checks hold)
