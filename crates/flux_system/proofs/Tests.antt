-- What the tests of a system say: which one refuses it, and that it is valid where none does.
use Rattle.std.proofs.Common.{◌≡◌, ℕ, ◌*◌, ◌<◌, ◌≤◌, ◌^◌, Bool, true, false, leb, eqb, ◌&&◌, length, Some, None, ◌∙◌, arith}
use Rattle.std.specs.Prelude.{slice_index}
use Rattle.std.proofs.lemmas.Bool.{leb-true, ltb-true, eqb-true, le-leb, lt-leb, lt-ltb, le-ltb, eq-eqb, ne_eqb, and_parts, and_from, and_left, and_right}
use Rattle.duties.specs.Duties.{first, each}
use Rattle.duties.proofs.Orders.{this_met, this_fails, last_decides, unless_holds, unless_fails, unless_met, all_met, each_met}
use Rattle.flux_system.specs.declared.TheConstants.{MOST_PATCHES}
use Rattle.flux_system.specs.declared.faults.SystemFault.{SystemFault}
use Rattle.flux_system.specs.declared.faults.SystemFault.TheVariants.{Size, Threshold, Reflectance, RowTotal}
use Rattle.flux_system.specs.System.{FluxSystem, patches, row_total}
use Rattle.flux_system.specs.Validity.{IsSystem, reflectance_duty, row_duty, system_duties}

-- the first two tests
abbrev has_size : FluxSystem → Bool
has_size s = leb 1 (patches s) && leb (patches s) MOST_PATCHES && eqb (length s.shares) (patches s * patches s)

abbrev has_threshold : FluxSystem → Bool
has_threshold s = leb 1 s.threshold && leb s.threshold (10 ^ 16)

pub size_met : (s : FluxSystem) → 1 ≤ patches s → patches s ≤ 4096 → length s.shares ≡ patches s * patches s → has_size s ≡ true
size_met s some few square = and_from _ _ (and_from _ _ (le-leb _ _ some) (le-leb _ _ few)) (eq-eqb _ _ square)

pub threshold_met : (s : FluxSystem) → 1 ≤ s.threshold → s.threshold ≤ 10000000000000000 → has_threshold s ≡ true
threshold_met s positive limited = and_from _ _ (le-leb _ _ positive) (le-leb _ _ limited)

pub too_few : (s : FluxSystem) → patches s < 1 → has_size s ≡ false
too_few s h = and_left _ _ (and_left _ _ (lt-leb _ _ h))

pub too_many : (s : FluxSystem) → 4096 < patches s → has_size s ≡ false
too_many s h = and_left _ _ (and_right _ _ (lt-leb _ _ h))

pub no_square : (s : FluxSystem) → (length s.shares ≡ patches s * patches s → ⊥) → has_size s ≡ false
no_square s h = and_right _ _ (ne_eqb _ _ h)

pub too_low : (s : FluxSystem) → s.threshold < 1 → has_threshold s ≡ false
too_low s h = and_left _ _ (lt-leb _ _ h)

pub too_high : (s : FluxSystem) → 10000000000000000 < s.threshold → has_threshold s ≡ false
too_high s h = and_right _ _ (lt-leb _ _ h)

-- one reflectance, and one row of shares
pub reflectance_met : (s : FluxSystem) (i r : ℕ) → r ≡ slice_index s.reflectance i → r ≤ 950 → reflectance_duty s i ≡ None
reflectance_met s i r is h = unless_holds _ _ (le-leb _ _ (omega arith))

pub reflectance_refused : (s : FluxSystem) (i r : ℕ) → r ≡ slice_index s.reflectance i → 950 < r → reflectance_duty s i ≡ Some (Reflectance i)
reflectance_refused s i r is h = unless_fails _ _ (lt-leb _ _ (omega arith))

pub row_met : (s : FluxSystem) (i total : ℕ) → total ≡ row_total s i → total < 1000000000 → row_duty s i ≡ None
row_met s i total is h = unless_holds _ _ (lt-ltb _ _ (omega arith))

pub row_refused : (s : FluxSystem) (i total : ℕ) → total ≡ row_total s i → 1000000000 ≤ total → row_duty s i ≡ Some (RowTotal i)
row_refused s i total is h = unless_fails _ _ (le-ltb _ _ (omega arith))

pub refused_by_size : (s : FluxSystem) → has_size s ≡ false → first (system_duties s) ≡ Some (Size (patches s))
unfolding system_duties
refused_by_size s off = this_fails _ _ _ (unless_fails _ _ off)

pub refused_by_threshold : (s : FluxSystem) → has_size s ≡ true → has_threshold s ≡ false → first (system_duties s) ≡ Some Threshold
unfolding system_duties
refused_by_threshold s size off = this_met _ _ (unless_holds _ _ size) ∙ this_fails _ _ _ (unless_fails _ _ off)

pub refused_by_reflectance : (s : FluxSystem) (f : SystemFault) → has_size s ≡ true → has_threshold s ≡ true → each (patches s) (reflectance_duty s) ≡ Some f → first (system_duties s) ≡ Some f
unfolding system_duties
refused_by_reflectance s f size threshold fails = this_met _ _ (unless_holds _ _ size) ∙ (this_met _ _ (unless_holds _ _ threshold) ∙ this_fails _ _ _ fails)

pub rows_decide : (s : FluxSystem) → has_size s ≡ true → has_threshold s ≡ true → each (patches s) (reflectance_duty s) ≡ None → first (system_duties s) ≡ each (patches s) (row_duty s)
unfolding system_duties
rows_decide s size threshold met = this_met _ _ (unless_holds _ _ size) ∙ (this_met _ _ (unless_holds _ _ threshold) ∙ (this_met _ _ met ∙ last_decides _))

pub reflectances_met : (s : FluxSystem) → each (patches s) (reflectance_duty s) ≡ None → (i : ℕ) → i < patches s → slice_index s.reflectance i ≤ 950
reflectances_met s met i h = leb-true _ _ (unless_met _ _ (each_met (reflectance_duty s) (patches s) i met h))

pub valid_where_met : (s : FluxSystem) → first (system_duties s) ≡ None → IsSystem s
unfolding system_duties
valid_where_met s met =
    let a = all_met _ _ met in
    let b = all_met _ _ a.1 in
    let c = all_met _ _ b.1 in
    let d = all_met _ _ c.1 in
    let size = and_parts _ _ (unless_met _ _ a.0) in
    let range = and_parts _ _ size.0 in
    let limits = and_parts _ _ (unless_met _ _ b.0) in
    record {
      some = leb-true _ _ range.0;
      few = leb-true _ _ range.1;
      square = eqb-true _ _ size.1;
      positive = leb-true _ _ limits.0;
      limited = leb-true _ _ limits.1;
      reflectances = reflectances_met s c.0;
      rows = λ i h. ltb-true _ _ (unless_met _ _ (each_met (row_duty s) (patches s) i d.0 h));
    }
