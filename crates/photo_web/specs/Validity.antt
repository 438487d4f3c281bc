-- What makes a photometric web valid. The limits are this project's own.
use Rattle.std.specs.Prelude.{◌≡◌, ℕ, ◌-◌, ◌*◌, ◌≤◌, ◌^◌, ◌==◌, ◌&&◌, ◌||◌, Bool, nat_lt, nat_le, List, [], ◌∷◌, length, slice_index, All, position}
use Rattle.std.specs.List.Sorted.{IsStrictlyIncreasing}
use Rattle.std.specs.Option.{option_map}
use Rattle.duties.specs.Duties.{Duty, unless, each, first}
use Rattle.photo_web.specs.declared.faults.WebFault.{WebFault}
use Rattle.photo_web.specs.declared.faults.WebFault.TheVariants.{Planes, Gammas, Values, TooBright}
use Rattle.photo_web.specs.Web.{PhotometricWeb}

-- 2 to 1,441 planes that rise strictly from 0 to a full turn
pub record ArePlanes (planes : List ℕ) : Type 0 where
  pub some : 2 ≤ length planes
  pub few : length planes ≤ 1441
  pub start : slice_index planes 0 ≡ 0
  pub rising : IsStrictlyIncreasing planes
  pub close : slice_index planes (length planes - 1) ≡ 360000

-- 2 to 721 gammas that rise strictly within 0 to half a turn
pub record AreGammas (gammas : List ℕ) : Type 0 where
  pub some : 2 ≤ length gammas
  pub few : length gammas ≤ 721
  pub rising : IsStrictlyIncreasing gammas
  pub limited : All (λ gamma. gamma ≤ 180000) gammas

-- a value for each plane and each gamma, none above 10^15
pub record IsWeb (w : PhotometricWeb) : Type 0 where
  pub planes : ArePlanes w.planes
  pub gammas : AreGammas w.gammas
  pub count : length w.values ≡ length w.planes * length w.gammas
  pub limited : All (λ value. value ≤ 10 ^ 15) w.values

-- the angle at a place is above the one before it, if there is one
abbrev pub rises_at : List ℕ → ℕ → Bool
rises_at angles at = at == 0 || nat_lt (slice_index angles (at - 1)) (slice_index angles at)

-- the angle at a place rises and is at most the most; else the fault is the place
abbrev pub rise_duty : ℕ → List ℕ → ℕ → Duty ℕ
rise_duty most angles at = unless (rises_at angles at && nat_le (slice_index angles at) most) at

-- the first place whose angle doesn't rise or is above the most
unfoldable pub first_unfit : ℕ → List ℕ → Duty ℕ
first_unfit most angles = each (length angles) (rise_duty most angles)

-- Planes start at 0 (no planes do so as well), each rises and is at most a full turn, there are 2 to 1,441, and the last
-- is a full turn. Too few or too many offend at their count.
unfoldable pub plane_duties : List ℕ → List (Duty WebFault)
plane_duties planes =
    unless (slice_index planes 0 == 0) (Planes 0)
    ∷ option_map Planes (first_unfit 360000 planes)
    ∷ unless (nat_le 2 (length planes) && nat_le (length planes) 1441) (Planes (length planes))
    ∷ unless (slice_index planes (length planes - 1) == 360000) (Planes (length planes - 1))
    ∷ []

-- Each gamma rises and is at most half a turn, and there are 2 to 721. Too few or too many offend at their count.
unfoldable pub gamma_duties : List ℕ → List (Duty WebFault)
gamma_duties gammas =
    option_map Gammas (first_unfit 180000 gammas)
    ∷ unless (nat_le 2 (length gammas) && nat_le (length gammas) 721) (Gammas (length gammas))
    ∷ []

-- what makes a web valid, as tests in their order, each with its refusal
unfoldable pub web_duties : PhotometricWeb → List (Duty WebFault)
web_duties w =
    first (plane_duties w.planes)
    ∷ first (gamma_duties w.gammas)
    ∷ unless (length w.values == length w.planes * length w.gammas) Values
    ∷ option_map TooBright (position (nat_lt (10 ^ 15)) w.values)
    ∷ []
