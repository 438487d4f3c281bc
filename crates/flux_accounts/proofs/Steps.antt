-- Each kind of step keeps the rule.
use Rattle.std.proofs.Common.{◌≡◌, ℕ, zero, suc, ◌+◌, ◌%◌, ◌^◌, ◌<◌, ◌≤◌, eqb, cond, List, [], ◌∷◌, ◌++◌, map, length, get_or, set, refl, sym, ap, subst, ◌∙◌, arith, ⊎_elim, length-set, get_or-set_same, eq-eqb, ne_eqb}
use Rattle.std.proofs.lemmas.Bool.{cases_lt}
use Rattle.std.proofs.lemmas.List.{get_or-map, get_or_past, length-map, map-append}
use Rattle.std.proofs.Math.Seq.{set-get_or, map-set}
use mathlib.Core.Logic.{dite}
use mathlib.Core.Option.{none, some, some-injective, some-ne-none}
use native.Mathlib.Decide.{ℕ_discrete}
use lib.ListN.{get_elem?}
use prog.Atomic.{either}
use Rattle.atomic_table.specs.Table.{step, keeps, stepped, Allows, Splits, Joins, opening}
use Rattle.atomic_table.proofs.Lists.{set_else}
use Rattle.flux_system.specs.System.{FluxSystem, patches}
use Rattle.shot_core.specs.declared.roles.Role.{Role}
use Rattle.shot_core.specs.declared.roles.Role.TheVariants.{Desk, Actor}
use Rattle.shot_core.specs.declared.views.View.{View}
use Rattle.shot_core.specs.Views.{new_view, spent_view, after_take, after_give, after_hire, after_retire, taken_at, hand_at}
use Rattle.shot_core.specs.Accounts.{AccountsHold, IsOfSystem, HasShape}
use Rattle.shot_core.proofs.Pooled.{taken_fits, hand_fits, wins_fit}
use Rattle.shot_core.proofs.TakesGives.{take_keeps, give_keeps}
use Rattle.shot_core.proofs.HiresRetires.{hire_keeps, retire_keeps, desk_of_system}
use Rattle.flux_accounts.specs.declared.histories.History.{History}
use Rattle.flux_accounts.specs.Histories.{account_of, after_looking, after_winning, after_losing, after_giving, after_hiring, newcomer, after_retiring, spent_history, new_history}
use Rattle.flux_accounts.specs.Rule.{BankTable, AreKept}
use Rattle.flux_accounts.specs.Plays.{Seated, IsBounded, tells_look, tells_exchange, tells_give}

-- what is at a place, read with a default
pub at_place : {X : Type 0} (xs : List X) (i : ℕ) (x d : X) → get_elem? xs i ≡ some x → (i < length xs) × (get_or xs i d ≡ x)
at_place [] i x d at = absurd (some-ne-none x (sym at))
at_place (y ∷ ys) zero x d at = (omega arith, some-injective y x at)
at_place (y ∷ ys) (suc i) x d at = let rest = at_place ys i x d at in let inside = rest.0 in (omega arith, rest.1)

-- behind the first word
get_after : (y : ℕ) (ys : List ℕ) (k : ℕ) → get_or (y ∷ ys) (k + 1) 0 ≡ get_or ys k 0
get_after y ys k = let next : k + 1 ≡ suc k = omega arith in ap (λ (m : ℕ). get_or (y ∷ ys) m 0) next

set_after : (y : ℕ) (ys : List ℕ) (k x : ℕ) → set (y ∷ ys) (k + 1) x ≡ y ∷ set ys k x
set_after y ys k x = let next : k + 1 ≡ suc k = omega arith in ap (λ (m : ℕ). set (y ∷ ys) m x) next

module _ (s : FluxSystem) (direct : List ℕ) where
  pub word_at : (t : BankTable) (k : AreKept s direct t) (i : ℕ) → get_or t.words (i + 1) 0 ≡ get_or k.residual i 0
  word_at t k i = ap (λ (ws : List ℕ). get_or ws (i + 1) 0) k.words ∙ get_after 0 k.residual i

  -- the account of a seat among all
  pub account_at : (t : BankTable) (id : ℕ) (h : History) → get_elem? t.views id ≡ some h → (id < length (map account_of t.views)) × (get_or (map account_of t.views) id spent_view ≡ h.account)
  account_at t id h at =
      let place = at_place t.views id h h at in
      let inside = place.0 in
      let long = length-map t.views account_of in
      (omega arith, get_or-map account_of t.views id h spent_view place.0 ∙ ap account_of place.1)

  -- what the accounts bound of an actor's
  bounded : (residual : List ℕ) (all : List View) (h : AccountsHold s direct residual all) (k : ℕ) (inside : k < length all) (v : View) → get_or all k spent_view ≡ v → v.role ≡ Actor → IsBounded v
  bounded residual all h k inside v is actor =
      let shape : IsOfSystem s direct v = subst (λ (r : Role). HasShape s direct r v) actor (subst (λ (u : View). HasShape s direct u.role u) is (h.shape k spent_view inside)) in
      let n = ap patches shape.system in
      record {
        hand = λ j l. let fits = hand_fits s direct residual all h k inside j (omega arith) in let same = ap (hand_at j) is in omega arith;
        taken = λ j l. let fits = taken_fits s direct residual all h k inside j (omega arith) in let same = ap (taken_at j) is in omega arith;
        wins = let fits = wins_fit s direct residual all h k inside in let same = ap (λ (u : View). u.wins) is in omega arith;
      }

  -- the same of an account that was put in its place
  bounded_after : (residual : List ℕ) (all : List View) (k : ℕ) (inside : k < length all) (v : View) → AccountsHold s direct residual (set all k v) → v.role ≡ Actor → IsBounded v
  bounded_after residual all k inside v h actor = let long = length-set all k v in bounded residual (set all k v) h k (omega arith) v (get_or-set_same all k v spent_view inside) actor

  -- a step that leaves the word of patch i at x
  placed : (t : BankTable) (k : AreKept s direct t) (i x id : ℕ) (c : List (ℕ × Unit {0})) (w : History) → AccountsHold s direct (set k.residual i x) (set (map account_of t.views) id w.account) → AreKept s direct (stepped t (i + 1) x id c w keeps)
  placed t k i x id c w h = record {
    residual = set k.residual i x;
    words = ap (λ (ws : List ℕ). set ws (i + 1) x) k.words ∙ set_after 0 k.residual i x;
    accounts = subst (AccountsHold s direct (set k.residual i x)) (sym (map-set account_of t.views id w)) h;
  }

  -- a step that changes no word and no account
  unmoved : (t : BankTable) (k : AreKept s direct t) (i id : ℕ) (me : Seated) (w : History) → get_elem? t.views id ≡ some me.0 → w.account ≡ me.0.account
      → AreKept s direct (stepped t (i + 1) (get_or t.words (i + 1) 0) id me.1 w keeps)
  unmoved t k i id me w at same =
      let place = account_at t id me.0 at in
      record {
        residual = k.residual;
        words = set-get_or t.words (i + 1) 0 ∙ k.words;
        accounts = subst (AccountsHold s direct k.residual)
            (sym (map-set account_of t.views id w ∙ (ap (set (map account_of t.views) id) (same ∙ sym place.1) ∙ set-get_or (map account_of t.views) id spent_view)))
            k.accounts;
      }

  pub looks : (slots id : ℕ) (me : Seated) (i : ℕ) → Allows (AreKept s direct) slots id me (i + 1) (λ n. n) (tells_look (step slots (i + 1) 0 0 none) me)
  looks slots id me i t k _ at _ =
      let found : ℕ = get_or t.words (i + 1) 0 in
      (after_looking me.0 i found, keeps, tt, unmoved t k i id me (after_looking me.0 i found) at refl, λ j e. let same : i ≡ j = omega arith in λ q. (after_looking me.0 (same q) found, me.1))

  pub exchanges : (slots id : ℕ) (me : Seated) (i seen : ℕ) → i < patches s → s.threshold ≤ seen → me.0.account.role ≡ Actor
      → Allows (AreKept s direct) slots id me (i + 1) (λ n. either (eqb n seen) 0 n) (tells_exchange (step slots (i + 1) seen 0 none) me)
  exchanges slots id me i seen in_system enough actor t k _ at _ =
      let x : ℕ = get_or t.words (i + 1) 0 in
      let v : View = me.0.account in
      let all : List View = map account_of t.views in
      let place = account_at t id me.0 at in
      dite (ℕ_discrete x seen)
      (λ hit.
      let here : get_or k.residual i 0 ≡ seen = sym (word_at t k i) ∙ hit in
      let after : AccountsHold s direct (set k.residual i 0) (set all id (after_take v i seen)) =
      subst (λ (z : View × ℕ). AccountsHold s direct (set k.residual i 0) (set all id (after_take z.0 i z.1))) (λ q. (place.1 q, here q))
      (take_keeps s direct k.residual all k.accounts id place.0 (ap (λ (u : View). u.role) place.1 ∙ actor) i in_system (omega arith)) in (
        after_winning me.0 i seen,
        keeps,
        tt,
        subst (λ c. AreKept s direct (stepped t (i + 1) (either c 0 x) id me.1 (after_winning me.0 i seen) keeps)) (sym (eq-eqb x seen hit)) (placed t k i 0 id me.1 (after_winning me.0 i seen) after),
        (
          (λ j e. let same : i ≡ j = omega arith in λ q. (cond (sym (eq-eqb x seen hit) q) (after_winning me.0 (same q) seen) (after_losing me.0 (same q) x), me.1)),
          bounded_after (set k.residual i 0) all id place.0 (after_take v i seen) after actor,
        ),
      ))
      (λ miss. (
        after_losing me.0 i x,
        keeps,
        tt,
        subst (λ c. AreKept s direct (stepped t (i + 1) (either c 0 x) id me.1 (after_losing me.0 i x) keeps)) (sym (ne_eqb x seen miss)) (unmoved t k i id me (after_losing me.0 i x) at refl),
        (
          (λ j e. let same : i ≡ j = omega arith in λ q. (cond (sym (ne_eqb x seen miss) q) (after_winning me.0 (same q) seen) (after_losing me.0 (same q) x), me.1)),
          bounded k.residual all k.accounts id place.0 v place.1 actor,
        ),
      ))

  pub gives : (slots id : ℕ) (me : Seated) (i amount : ℕ) → i < patches s → amount ≡ hand_at i me.0.account → me.0.account.role ≡ Actor
      → Allows (AreKept s direct) slots id me (i + 1) (λ n. (n + amount) % 2 ^ 64) (tells_give (step slots (i + 1) amount 0 none) me)
  gives slots id me i amount in_system is actor t k _ at _ =
      let n : ℕ = get_or t.words (i + 1) 0 in
      let v : View = me.0.account in
      let all : List View = map account_of t.views in
      let place = account_at t id me.0 at in
      let here = word_at t k i in
      let hand = ap (hand_at i) place.1 in
      let fits = hand_fits s direct k.residual all k.accounts id place.0 i in_system in
      let sum : get_or k.residual i 0 + hand_at i v ≡ (n + amount) % 2 ^ 64 = omega arith in
      let after : AccountsHold s direct (set k.residual i ((n + amount) % 2 ^ 64)) (set all id (after_give v i)) =
      subst (λ (y : ℕ). AccountsHold s direct (set k.residual i y) (set all id (after_give v i))) sum
      (subst (λ (u : View). AccountsHold s direct (set k.residual i (get_or k.residual i 0 + hand_at i u)) (set all id (after_give u i))) place.1
      (give_keeps s direct k.residual all k.accounts id place.0 (ap (λ (u : View). u.role) place.1 ∙ actor) i in_system)) in (
        after_giving me.0 i (n + amount),
        keeps,
        tt,
        placed t k i ((n + amount) % 2 ^ 64) id me.1 (after_giving me.0 i (n + amount)) after,
        (
          (λ j e. let same : i ≡ j = omega arith in λ q. (after_giving me.0 (same q) (n + amount), me.1)),
          (omega arith, bounded_after (set k.residual i ((n + amount) % 2 ^ 64)) all id place.0 (after_give v i) after actor),
        ),
      )

  pub hires : (id : ℕ) (h : History) → h.account.role ≡ Desk → Splits (AreKept s direct) id h (after_hiring h) (newcomer h)
  hires id h desk t k at =
      let all : List View = map account_of t.views in
      let place = account_at t id h at in
      let is = ap (λ (u : View). u.role) place.1 ∙ desk in
      let shape = desk_of_system s direct k.residual all k.accounts id place.0 is in
      let system : h.account.system ≡ s = sym (ap (λ (u : View). u.system) place.1) ∙ shape.system in
      let flux : h.account.direct ≡ direct = sym (ap (λ (u : View). u.direct) place.1) ∙ shape.direct in
      let views : map account_of (set t.views id (after_hiring h) ++ newcomer h ∷ []) ≡ set all id (after_hire (get_or all id spent_view)) ++ new_view s direct Actor ∷ [] =
      map-append account_of (set t.views id (after_hiring h)) (newcomer h ∷ [])
      ∙ (λ q. (map-set account_of t.views id (after_hiring h) ∙ ap (λ (u : View). set all id (after_hire u)) (sym place.1)) q ++ new_view (system q) (flux q) Actor ∷ []) in
      record {
        residual = k.residual;
        words = k.words;
        accounts = subst (AccountsHold s direct k.residual) (sym views) (hire_keeps s direct k.residual all k.accounts id place.0 is);
      }

  pub retires : (id : ℕ) (h : History) (other : ℕ) (g : History) → h.account.role ≡ Desk → g.account.role ≡ Actor → ((j : ℕ) → j < patches g.account.system → hand_at j g.account ≡ 0)
      → Joins (AreKept s direct) id h other g (after_retiring h g) spent_history
  retires id h other g desk actor empty t k at apart at' =
      let all : List View = map account_of t.views in
      let was : get_elem? t.views other ≡ some g = sym (set_else t.views id other (after_retiring h g) apart) ∙ at' in
      let place = account_at t id h at in
      let there = account_at t other g was in
      let is = ap (λ (u : View). u.role) place.1 ∙ desk in
      let as_actor = ap (λ (u : View). u.role) there.1 ∙ actor in
      let shape : IsOfSystem s direct (get_or all other spent_view) = subst (λ (r : Role). HasShape s direct r (get_or all other spent_view)) as_actor (k.accounts.shape other spent_view there.0) in
      let system = ap patches (sym shape.system ∙ ap (λ (u : View). u.system) there.1) in
      let none : (j : ℕ) → hand_at j (get_or all other spent_view) ≡ 0 = λ j.
      ⊎_elim (λ (l : j < patches s). ap (hand_at j) there.1 ∙ empty j (omega arith)) (λ (l : patches s ≤ j). let long = shape.of_hand in get_or_past (get_or all other spent_view).hand j 0 (omega arith)) (cases_lt j (patches s)) in
      let views : map account_of (set (set t.views id (after_retiring h g)) other spent_history) ≡ set (set all id (after_retire (get_or all id spent_view) (get_or all other spent_view))) other spent_view =
      map-set account_of (set t.views id (after_retiring h g)) other spent_history
      ∙ ap (λ (us : List View). set us other spent_view) (map-set account_of t.views id (after_retiring h g) ∙ (λ q. set all id (after_retire (sym place.1 q) (sym there.1 q)))) in
      record {
        residual = k.residual;
        words = k.words;
        accounts = subst (AccountsHold s direct k.residual) (sym views) (retire_keeps s direct k.residual all k.accounts id place.0 is other there.0 apart as_actor none);
      }

  pub opens : (words : List ℕ) → words ≡ 0 ∷ direct → AccountsHold s direct direct (new_view s direct Desk ∷ []) → AreKept s direct (opening words [] (new_history s direct Desk))
  opens words is h = record { residual = direct; words = is; accounts = h }
