-- The accounts of a world before its first event hold.
use Rattle.std.proofs.Common.{◌≡◌, ℕ, ◌<◌, ◌≤◌, List, [], ◌∷◌, All, length, get_or, refl, sym, subst, arith}
use Rattle.std.specs.List.{sum}
use Rattle.std.proofs.lemmas.List.Elements.{All-nil, All-cons}
use Rattle.flux_system.specs.System.{FluxSystem, patches}
use Rattle.flux_system.specs.Validity.{IsSystem}
use Rattle.flux_system.specs.declared.TheConstants.{MOST_SEATS}
use Rattle.shot_core.specs.declared.accounts.Account.{Account}
use Rattle.shot_core.specs.declared.accounts.DeskAccount.{DeskAccount}
use Rattle.shot_core.specs.declared.roles.Role.TheVariants.{Desk, Actor}
use Rattle.shot_core.specs.declared.views.View.{View}
use Rattle.shot_core.specs.Views.{new_view, is_actor, is_retired, number_of}
use Rattle.shot_core.specs.Accounts.{AccountsHold, IsBooked, HasFractions, IsPaidFor, HasShape, parts_due, IsDesk}
use Rattle.shot_core.specs.AccountViews.{desk_view, account_view}
use Rattle.shot_core.specs.Layouts.{IsWorld}
use Rattle.shot_core.proofs.HiresRetires.{nothing_at, new_booked, new_fractions, new_paid, new_of_system}

only : (P : View → Type 0) (v : View) → P v → All P (v ∷ [])
only P v p = All-cons P v [] p (All-nil P)

module _ (s : FluxSystem) (flux : List ℕ) (valid : IsSystem s) (long : length flux ≡ patches s) (limit : sum flux ≤ 10000000000000000) where
  pub opening_holds : AccountsHold s flux flux (new_view s flux Desk ∷ [])
  opening_holds =
      let v : View = new_view s flux Desk in
      record {
        system = valid;
        limit = limit;
        of_direct = long;
        of_words = long;
        words = λ j h. let none = nothing_at (patches s) j in omega arith;
        views = only (IsBooked s) v (new_booked s flux Desk);
        fractions = only (HasFractions s) v (new_fractions s flux Desk);
        wins = only (IsPaidFor s) v (new_paid s flux Desk);
        shape = only (λ u. HasShape s flux u.role u) v (new_of_system s flux Desk);
        one_desk = refl;
        desk = only (λ u. u.role ≡ Desk → IsDesk (number_of is_actor (v ∷ [])) u) v (λ _. record { empty = λ j. nothing_at (patches s) j; counts = refl });
        parts = only (λ u. u.parts ≡ parts_due (number_of is_retired (v ∷ [])) u.role) v refl;
      }

  pub opening_is_world : (desk : DeskAccount) (actors : List Account) → desk_view s flux desk ≡ new_view s flux Desk → length actors ≤ MOST_SEATS
      → ((k : ℕ) (d : Account) → k < length actors → account_view s flux (get_or actors k d) ≡ new_view s flux Actor) → IsWorld s flux flux desk 0 actors
  opening_is_world desk actors desk_is seats new = record {
    accounts = subst (λ (v : View). AccountsHold s flux flux (v ∷ [])) (sym desk_is) opening_holds;
    few = omega arith;
    seats = seats;
    fresh = λ k d _ inside. new k d inside;
  }
