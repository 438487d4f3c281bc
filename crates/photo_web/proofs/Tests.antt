-- What the tests of a web say: which one refuses it, and that it is valid where none does.
use Rattle.std.proofs.Common.{◌≡◌, ℕ, ◌+◌, ◌-◌, ◌<◌, ◌≤◌, ◌^◌, Bool, true, false, ltb, leb, eqb, inl, inr, List, length, Option, Some, None, refl, ap, ◌∙◌, arith}
use Rattle.std.specs.Prelude.{slice_index, All, position}
use Rattle.std.specs.Option.{option_map}
use Rattle.std.specs.List.Sorted.{IsStrictlyIncreasing}
use Rattle.std.proofs.lemmas.Bool.{leb-true, ltb-true, ltb-false, eqb-true, eq-eqb, le-leb, lt-leb, lt-ltb, cases_lt, cond-true, and_parts, and_from, and_left, and_right, or_cases}
use Rattle.std.specs.List.{position_or_len}
use Rattle.std.proofs.lemmas.List.Sums.{fails_before_first}
use Rattle.std.proofs.lemmas.List.Elements.{All-from_get_or}
use Rattle.duties.specs.Duties.{first}
use Rattle.duties.proofs.Orders.{this_met, this_fails, unless_holds, unless_fails, unless_met, all_met, each_met}
use Rattle.photo_web.specs.declared.faults.WebFault.TheVariants.{Planes}
use Rattle.photo_web.specs.Web.{PhotometricWeb}
use Rattle.photo_web.specs.Validity.{ArePlanes, AreGammas, IsWeb, rises_at, rise_duty, first_unfit, plane_duties, gamma_duties, web_duties}

-- one angle
pub angle_met : (most : ℕ) (angles : List ℕ) (at : ℕ) → rises_at angles at ≡ true → slice_index angles at ≤ most → rise_duty most angles at ≡ None
angle_met most angles at up low = unless_holds _ _ (and_from _ _ up (le-leb _ _ low))

pub angle_falls : (most : ℕ) (angles : List ℕ) (at : ℕ) → rises_at angles at ≡ false → rise_duty most angles at ≡ Some at
angle_falls most angles at down = unless_fails _ _ (and_left _ _ down)

pub angle_past : (most : ℕ) (angles : List ℕ) (at : ℕ) → most < slice_index angles at → rise_duty most angles at ≡ Some at
angle_past most angles at high = unless_fails _ _ (and_right _ _ (lt-leb _ _ high))

-- where each angle is met, they rise and none is above the most
module _ (most : ℕ) (angles : List ℕ) (met : first_unfit most angles ≡ None) where
  parts : (at : ℕ) → at < length angles → (rises_at angles at ≡ true) × (leb (slice_index angles at) most ≡ true)
  unfolding first_unfit
  parts at h = and_parts _ _ (unless_met _ _ (each_met (rise_duty most angles) (length angles) at met h))

  pub fit_rising : IsStrictlyIncreasing angles
  fit_rising k h =
      elim (or_cases (eqb (k + 1) 0) _ (parts (k + 1) h).0) [
        | inl e ↦ absurd (let z = eqb-true (k + 1) 0 e in omega arith)
        | inr lt ↦ let same : (k + 1) - 1 ≡ k = omega arith in rw same at (ltb-true _ _ lt)
      ]

  pub fit_limited : All (λ angle. angle ≤ most) angles
  fit_limited = All-from_get_or (λ angle. angle ≤ most) angles 0 (λ i h. leb-true _ _ (parts i h).1)

-- a fault that is made of a place comes where the place does
pub placed_met : {F : Type 0} (fault : ℕ → F) (place : Option ℕ) → option_map fault place ≡ None → place ≡ None
placed_met fault None h = refl
placed_met fault (Some at) h = absurd (cc)

pub no_position : (p : ℕ → Bool) (xs : List ℕ) → position p xs ≡ None → (k : ℕ) → k < length xs → p (slice_index xs k) ≡ false
no_position p xs none k h =
    elim (cases_lt (position_or_len p xs) (length xs)) [
      | inl before ↦ let found = cond-true (ltb (position_or_len p xs) (length xs)) (Some (position_or_len p xs)) None (lt-ltb _ _ before) in absurd (cc)
      | inr all ↦ fails_before_first p xs k 0 (omega arith)
    ]

-- where planes start at 0, the first unfit one is the fault
pub unfit_plane : (planes : List ℕ) (at : ℕ) → slice_index planes 0 ≡ 0 → first_unfit 360000 planes ≡ Some at → first (plane_duties planes) ≡ Some (Planes at)
unfolding plane_duties
unfit_plane planes at start unfit = this_met _ _ (unless_holds _ _ (eq-eqb _ _ start)) ∙ this_fails _ _ _ (ap (option_map Planes) unfit)

pub valid_planes : (planes : List ℕ) → first (plane_duties planes) ≡ None → ArePlanes planes
unfolding plane_duties
valid_planes planes met =
    let a = all_met _ _ met in
    let b = all_met _ _ a.1 in
    let c = all_met _ _ b.1 in
    let d = all_met _ _ c.1 in
    let count = and_parts _ _ (unless_met _ _ c.0) in
    record {
      some = leb-true _ _ count.0;
      few = leb-true _ _ count.1;
      start = eqb-true _ _ (unless_met _ _ a.0);
      rising = fit_rising 360000 planes (placed_met _ _ b.0);
      close = eqb-true _ _ (unless_met _ _ d.0);
    }

pub valid_gammas : (gammas : List ℕ) → first (gamma_duties gammas) ≡ None → AreGammas gammas
unfolding gamma_duties
valid_gammas gammas met =
    let a = all_met _ _ met in
    let b = all_met _ _ a.1 in
    let count = and_parts _ _ (unless_met _ _ b.0) in
    record {
      some = leb-true _ _ count.0;
      few = leb-true _ _ count.1;
      rising = fit_rising 180000 gammas (placed_met _ _ a.0);
      limited = fit_limited 180000 gammas (placed_met _ _ a.0);
    }

pub valid_where_met : (w : PhotometricWeb) → first (web_duties w) ≡ None → IsWeb w
unfolding web_duties
valid_where_met w met =
    let a = all_met _ _ met in
    let b = all_met _ _ a.1 in
    let c = all_met _ _ b.1 in
    let d = all_met _ _ c.1 in
    record {
      planes = valid_planes w.planes a.0;
      gammas = valid_gammas w.gammas b.0;
      count = eqb-true _ _ (unless_met _ _ c.0);
      limited = All-from_get_or (λ value. value ≤ 10 ^ 15) w.values 0 (λ i h. ltb-false _ _ (no_position (ltb (10 ^ 15)) w.values (placed_met _ _ d.0) i h));
    }
