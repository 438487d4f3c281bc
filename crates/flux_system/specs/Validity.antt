-- What makes a flux system valid. The limits are this project's own.
use Rattle.std.specs.Prelude.{◌≡◌, ℕ, ◌*◌, ◌<◌, ◌≤◌, ◌^◌, ◌==◌, ◌&&◌, nat_lt, nat_le, List, [], ◌∷◌, length, slice_index}
use Rattle.duties.specs.Duties.{Duty, unless, each}
use Rattle.flux_system.specs.declared.TheConstants.{MOST_PATCHES}
use Rattle.flux_system.specs.declared.faults.SystemFault.{SystemFault}
use Rattle.flux_system.specs.declared.faults.SystemFault.TheVariants.{Size, Threshold, Reflectance, RowTotal}
use Rattle.flux_system.specs.System.{FluxSystem, patches, row_total}

-- 1 to MOST_PATCHES patches and a square of shares; a threshold of 1 to 10^16; no reflectance above 950; no row of shares that sums to 10^9
pub record IsSystem (s : FluxSystem) : Type 0 where
  pub some : 1 ≤ patches s
  pub few : patches s ≤ MOST_PATCHES
  pub square : length s.shares ≡ patches s * patches s
  pub positive : 1 ≤ s.threshold
  pub limited : s.threshold ≤ 10 ^ 16
  pub reflectances : (i : ℕ) → i < patches s → slice_index s.reflectance i ≤ 950
  pub rows : (i : ℕ) → i < patches s → row_total s i < 10 ^ 9

-- no reflectance is above 950
abbrev pub reflectance_duty : FluxSystem → ℕ → Duty SystemFault
reflectance_duty s i = unless (nat_le (slice_index s.reflectance i) 950) (Reflectance i)

-- no row of shares sums to 10^9
abbrev pub row_duty : FluxSystem → ℕ → Duty SystemFault
row_duty s i = unless (nat_lt (row_total s i) (10 ^ 9)) (RowTotal i)

-- what makes a flux system valid, as tests in their order, each with its refusal
unfoldable pub system_duties : FluxSystem → List (Duty SystemFault)
system_duties s =
    unless (nat_le 1 (patches s) && nat_le (patches s) MOST_PATCHES && (length s.shares == patches s * patches s)) (Size (patches s))
    ∷ unless (nat_le 1 s.threshold && nat_le s.threshold (10 ^ 16)) Threshold
    ∷ each (patches s) (reflectance_duty s)
    ∷ each (patches s) (row_duty s)
    ∷ []
