-- What holds of the words and the views of a system at every moment. The accounts are this project's own.
use Rattle.std.specs.Prelude.{◌≡◌, ℕ, ◌+◌, ◌*◌, ◌<◌, ◌≤◌, ◌^◌, List, All, length, slice_index, sum}
use Rattle.flux_system.specs.Sums.{sum_below}
use Rattle.flux_system.specs.System.{FluxSystem, scale, patches}
use Rattle.flux_system.specs.Validity.{IsSystem}
use Rattle.flux_ledger.specs.Balance.{passed_to}
use Rattle.shot_core.specs.declared.roles.Role.{Role}
use Rattle.shot_core.specs.declared.roles.Role.TheVariants.{Desk, Actor, Retired}
use Rattle.shot_core.specs.declared.views.View.{View}
use Rattle.shot_core.specs.Views.{spent_view, taken_at, given_at, hand_at, err_at, total, is_desk, is_actor, is_retired, number_of}

-- All that an account took is passed on: it is given, in hand, or left as a fraction.
abbrev pub IsBooked : FluxSystem → View → Type 0
IsBooked s v = (j : ℕ) → j < patches s → scale * (given_at j v + hand_at j v) + err_at j v ≡ passed_to s v.taken j

-- Each part of an account leaves less than a nanolumen at each patch, and an account of no parts leaves none.
abbrev pub HasFractions : FluxSystem → View → Type 0
HasFractions s v = (j : ℕ) → j < patches s → err_at j v + v.parts ≤ scale * v.parts

-- Each win took at least the threshold.
abbrev pub IsPaidFor : FluxSystem → View → Type 0
IsPaidFor s v = v.wins * s.threshold ≤ sum_below (patches s) (λ i. taken_at i v)

-- a view of this system and this direct flux, with a number for each patch in each list
pub record IsOfSystem (s : FluxSystem) (flux : List ℕ) (v : View) : Type 0 where
  pub system : v.system ≡ s
  pub direct : v.direct ≡ flux
  pub of_taken : length v.taken ≡ patches s
  pub of_given : length v.given ≡ patches s
  pub of_hand : length v.hand ≡ patches s
  pub of_err : length v.err ≡ patches s

-- The view of a retired actor is the spent one, and every other is of the system.
abbrev pub HasShape : FluxSystem → List ℕ → Role → View → Type 0
HasShape s flux Desk v = IsOfSystem s flux v
HasShape s flux Actor v = IsOfSystem s flux v
HasShape s flux Retired v = v ≡ spent_view

-- how many parts an account has, where so many actors were retired
abbrev pub parts_due : ℕ → Role → ℕ
parts_due retired Desk = 1 + retired
parts_due retired Actor = 1
parts_due retired Retired = 0

-- The desk has nothing in hand, and counts the actors that were hired and not retired.
pub record IsDesk (actors : ℕ) (v : View) : Type 0 where
  pub empty : (j : ℕ) → hand_at j v ≡ 0
  pub counts : v.out ≡ actors

-- the accounts of a valid system and of a direct flux within its limit, over a word for each patch and all views
pub record AccountsHold (s : FluxSystem) (flux residual : List ℕ) (all : List View) : Type 0 where
  pub system : IsSystem s
  pub limit : sum flux ≤ 10 ^ 16
  pub of_direct : length flux ≡ patches s
  pub of_words : length residual ≡ patches s
  -- at each patch, what is left and what was taken is what came directly and what was given
  pub words : (j : ℕ) → j < patches s → slice_index residual j + total (taken_at j) all ≡ slice_index flux j + total (given_at j) all
  pub views : All (IsBooked s) all
  pub fractions : All (HasFractions s) all
  pub wins : All (IsPaidFor s) all
  pub shape : All (λ v. HasShape s flux v.role v) all
  pub one_desk : number_of is_desk all ≡ 1
  pub desk : All (λ v. v.role ≡ Desk → IsDesk (number_of is_actor all) v) all
  pub parts : All (λ v. v.parts ≡ parts_due (number_of is_retired all) v.role) all
