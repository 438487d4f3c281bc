-- What a seat and the desk have in memory keeps up with their accounts.
use Rattle.std.proofs.Common.{◌≡◌, ℕ, ◌+◌, ◌-◌, ◌<◌, ◌≤◌, cond, List, length, get_or, set, refl, ap, ◌∙◌, arith, length-set, get_or-set_same, eq-eqb}
use Rattle.flux_system.specs.System.{FluxSystem, patches}
use Rattle.shot_core.specs.declared.views.View.{View}
use Rattle.shot_core.specs.Hands.{Holdings}
use Rattle.shot_core.specs.Shapes.{AreSmall}
use Rattle.shot_core.specs.Shots.{amounts_after, fractions_after}
use Rattle.shot_core.specs.Views.{after_take, after_retire, both, taken_at, hand_at, err_at}
use Rattle.shot_core.proofs.Lists.{list-at, list-length}
use Rattle.flux_accounts.specs.declared.histories.History.{History}
use Rattle.flux_accounts.specs.Histories.{after_winning, after_losing}
use Rattle.flux_accounts.specs.Plays.{IsBounded, after_exchange}
use Rattle.flux_accounts.specs.Layouts.{SeatLayout, DeskLayout}

pub exchange_won : (h : History) (i seen found : ℕ) → found ≡ seen → after_exchange h i seen found ≡ after_winning h i seen
exchange_won h i seen found same = ap (λ b. cond b (after_winning h i seen) (after_losing h i found)) (eq-eqb found seen same)

-- the seat's list fits a take
pub take_fits : (own : List ℕ) (v : View) (i t : ℕ) → own ≡ v.taken → length v.taken ≡ patches v.system → i < patches v.system → IsBounded (after_take v i t) → get_or own i 0 + t ≤ 200000000000000000
take_fits own v i t is long inside bounds =
    let now = get_or-set_same v.taken i (get_or v.taken i 0 + t) 0 (omega arith) in
    let fits = bounds.taken i inside in
    let same = ap (λ (xs : List ℕ). get_or xs i 0) is in
    omega arith

-- so does its hand
pub book_fits : (s : FluxSystem) (hand : Holdings) (v : View) (i t : ℕ) → s ≡ v.system → hand.amounts ≡ v.hand → hand.fractions ≡ v.err → IsBounded (after_take v i t)
    → (j : ℕ) → j < patches s → get_or (amounts_after s i t hand.amounts hand.fractions) j 0 < 18446744073709551616
book_fits s hand v i t same amounts fractions bounds j l =
    let n = ap patches same in
    let fits = bounds.hand j (omega arith) in
    let is : get_or (amounts_after s i t hand.amounts hand.fractions) j 0 ≡ hand_at j (after_take v i t) = λ k. get_or (amounts_after (same k) i t (amounts k) (fractions k)) j 0 in
    omega arith

-- after a won take
pub won_layout : (s : FluxSystem) (hand new_hand : Holdings) (own new_own : List ℕ) (wins : ℕ) (v : View) (i t : ℕ) → SeatLayout hand own wins v → s ≡ v.system
    → new_hand.amounts ≡ amounts_after s i t hand.amounts hand.fractions → new_hand.fractions ≡ fractions_after s i t hand.fractions → new_own ≡ set own i (get_or own i 0 + t) → IsBounded (after_take v i t)
    → SeatLayout new_hand new_own (wins + 1) (after_take v i t)
won_layout s hand new_hand own new_own wins v i t old same amounts fractions taken bounds = record {
  amounts = amounts ∙ (λ k. amounts_after (same k) i t (old.amounts k) (old.fractions k));
  fractions = fractions ∙ (λ k. fractions_after (same k) i t (old.fractions k));
  taken = taken ∙ (λ k. set (old.taken k) i (get_or (old.taken k) i 0 + t));
  wins = ap (λ (n : ℕ). n + 1) old.wins;
  actor = old.actor;
  one_part = old.one_part;
  shape = record {
    system = refl;
    direct = refl;
    of_taken = length-set v.taken i (get_or v.taken i 0 + t) ∙ old.shape.of_taken;
    of_given = old.shape.of_given;
    of_hand = list-length _ (patches v.system);
    of_err = list-length _ (patches v.system);
  };
  bounds = bounds;
}

-- a seat is retired into the desk
module _ (own_taken own_err : List ℕ) (own_parts own_wins own_out : ℕ) (v : View) (desk : DeskLayout own_taken own_err own_parts own_wins own_out v) (hand : Holdings) (seat_taken : List ℕ) (seat_wins : ℕ) (u : View) (seat : SeatLayout hand seat_taken seat_wins u) (same : u.system ≡ v.system) (out : 0 < v.out) where
  n : patches u.system ≡ patches v.system
  n = ap patches same

  -- the fractions in hand are below a nanolumen
  pub retired_layout : AreSmall hand.fractions → (new_taken new_err : List ℕ) → new_taken ≡ both v.system own_taken seat_taken → new_err ≡ both v.system own_err hand.fractions
      → DeskLayout new_taken new_err (own_parts + 1) (own_wins + seat_wins) (own_out - 1) (after_retire v u)
  retired_layout small new_taken new_err taken_is err_is =
      let one = seat.one_part in
      let parts = desk.parts in
      let room = desk.room in
      record {
        taken = taken_is ∙ (λ k. both v.system (desk.taken k) (seat.taken k));
        err = err_is ∙ (λ k. both v.system (desk.err k) (seat.fractions k));
        parts = omega arith;
        wins = λ k. desk.wins k + seat.wins k;
        out = ap (λ (x : ℕ). x - 1) desk.out;
        desk = desk.desk;
        shape = record {
          system = refl;
          direct = refl;
          of_taken = list-length _ (patches v.system);
          of_given = list-length _ (patches v.system);
          of_hand = desk.shape.of_hand;
          of_err = list-length _ (patches v.system);
        };
        room = omega arith;
        taken_bound = λ i l. let size = n in omega (arith, list-at (λ j. taken_at j v + taken_at j u) (patches v.system) i l, desk.taken_bound i l, seat.bounds.taken i (omega arith));
        err_bound = λ j l.
            let size = n in
            let long = seat.shape.of_err in
            let lengths = ap length seat.fractions in
            let less = small j (omega arith) in
            let is = ap (λ (xs : List ℕ). get_or xs j 0) seat.fractions in
            omega (arith, list-at (λ i. err_at i v + err_at i u) (patches v.system) j l, desk.err_bound j l);
        wins_bound = let bound = desk.wins_bound in let more = seat.bounds.wins in omega arith;
      }
