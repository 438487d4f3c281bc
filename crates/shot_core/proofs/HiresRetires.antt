-- A hire and a retire keep the accounts.
use Rattle.std.proofs.Common.{◌≡◌, ◌≢◌, ℕ, zero, suc, ◌+◌, ◌*◌, ◌<◌, Bool, List, [], ◌∷◌, ◌++◌, All, length, get_or, set, replicate, refl, sym, ap, subst, ◌∙◌, arith, length-set, get_or-set_other}
use Rattle.std.proofs.lemmas.List.{length-replicate}
use Rattle.std.proofs.lemmas.List.Elements.{All-set, All-push}
use Rattle.std.proofs.lemmas.List.Sums.{sum_by-set, sum_by_push}
use Rattle.flux_system.specs.Sums.{sum_below}
use Rattle.flux_system.specs.System.{FluxSystem, patches, coefficient}
use Rattle.flux_system.proofs.Sums.{sum-zero, sum-same, sum-add}
use Rattle.flux_ledger.specs.Balance.{passed_to}
use Rattle.shot_core.specs.declared.roles.Role.{Role}
use Rattle.shot_core.specs.declared.roles.Role.TheVariants.{Desk, Actor, Retired}
use Rattle.shot_core.specs.declared.views.View.{View}
use Rattle.shot_core.specs.Shots.{at_each_patch}
use Rattle.shot_core.specs.Views.{new_view, spent_view, after_hire, after_retire, taken_at, given_at, hand_at, err_at, total, is_desk, is_actor, is_retired, one_for, number_of}
use Rattle.shot_core.specs.Accounts.{AccountsHold, IsBooked, HasFractions, IsPaidFor, IsOfSystem, HasShape, parts_due, IsDesk}
use Rattle.shot_core.proofs.Lists.{list-at, list-length}
use Rattle.shot_core.proofs.Untouched.{nothing_passed}
use Rattle.shot_core.proofs.RoleCounts.{one_of, desk_apart, number_same, only_desk, each_other}

pub nothing_at : (n j : ℕ) → ◌≡◌ {A = ℕ} (get_or (replicate n 0) j 0) 0
nothing_at zero j = refl
nothing_at (suc n) zero = refl
nothing_at (suc n) (suc j) = nothing_at n j

-- the view of an account that has done nothing yet
module _ (s : FluxSystem) (flux : List ℕ) (role : Role) where
  pub new_booked : IsBooked s (new_view s flux role)
  new_booked j l = let none = nothing_at (patches s) j in let passed = nothing_passed s j in omega arith

  pub new_fractions : HasFractions s (new_view s flux role)
  new_fractions j l = let none = nothing_at (patches s) j in omega arith

  pub new_paid : IsPaidFor s (new_view s flux role)
  new_paid = omega arith

  pub new_of_system : IsOfSystem s flux (new_view s flux role)
  new_of_system = record {
    system = refl;
    direct = refl;
    of_taken = length-replicate (patches s) 0;
    of_given = length-replicate (patches s) 0;
    of_hand = length-replicate (patches s) 0;
    of_err = length-replicate (patches s) 0;
  }

-- beside the desk, parts don't count the retired
parts_same : (m n : ℕ) (r : Role) → r ≢ Desk → parts_due m r ≡ parts_due n r
parts_same m n Desk apart = absurd (apart refl)
parts_same m n Actor apart = refl
parts_same m n Retired apart = refl

retired_apart : (r : Role) → r ≡ Retired → r ≢ Desk
retired_apart r retired desk = let one = ap (one_of is_desk) desk in let none = ap (one_of is_desk) retired in absurd (omega arith)

module _ (s : FluxSystem) (flux residual : List ℕ) (all : List View) (h : AccountsHold s flux residual all) (k : ℕ) (inside : k < length all) (is : (get_or all k spent_view).role ≡ Desk) where
  abbrev v : View
  v = get_or all k spent_view

  pub desk_of_system : IsOfSystem s flux v
  desk_of_system = subst (λ (r : Role). HasShape s flux r v) is (h.shape k spent_view inside)

  pub desk_parts : v.parts ≡ 1 + number_of is_retired all
  desk_parts = h.parts k spent_view inside ∙ ap (parts_due (number_of is_retired all)) is

  pub at_desk : IsDesk (number_of is_actor all) v
  at_desk = h.desk k spent_view inside is

  -- no other view is the desk's
  others : (o : ℕ) → o < length all → o ≢ k → (get_or all o spent_view).role ≢ Desk
  others = only_desk all k inside h.one_desk is

  changed : (f : View → ℕ) (w : View) → total f (set all k w) + f v ≡ total f all + f w
  changed f w = sum_by-set f all k w spent_view inside

  -- an actor is hired
  abbrev hirer : View
  hirer = after_hire v

  abbrev newcomer : View
  newcomer = new_view s flux Actor

  abbrev with_one : List View
  with_one = set all k hirer ++ newcomer ∷ []

  total_hired : (f : View → ℕ) → total f with_one + f v ≡ total f all + f hirer + f newcomer
  total_hired f = let push = sum_by_push f (set all k hirer) newcomer in let change = changed f hirer in omega arith

  number_hired : (test : Role → Bool) → number_of test with_one ≡ number_of test all + one_for test newcomer
  number_hired test = let push = sum_by_push (one_for test) (set all k hirer) newcomer in let same = number_same all k inside test hirer refl in omega arith

  pub hire_keeps : AccountsHold s flux residual with_one
  hire_keeps =
      let actors : number_of is_actor with_one ≡ number_of is_actor all + 1 = number_hired is_actor in
      let retired : number_of is_retired with_one ≡ number_of is_retired all = number_hired is_retired ∙ omega arith in
      record {
        system = h.system;
        limit = h.limit;
        of_direct = h.of_direct;
        of_words = h.of_words;
        words = λ j l. let old = h.words j l in let none = nothing_at (patches s) j in let taken = total_hired (taken_at j) in let given = total_hired (given_at j) in omega arith;
        views = All-push (IsBooked s) (set all k hirer) newcomer (All-set (IsBooked s) all k hirer (h.views k spent_view inside) h.views) (new_booked s flux Actor);
        fractions = All-push (HasFractions s) (set all k hirer) newcomer (All-set (HasFractions s) all k hirer (h.fractions k spent_view inside) h.fractions) (new_fractions s flux Actor);
        wins = All-push (IsPaidFor s) (set all k hirer) newcomer (All-set (IsPaidFor s) all k hirer (h.wins k spent_view inside) h.wins) (new_paid s flux Actor);
        shape = All-push (λ u. HasShape s flux u.role u) (set all k hirer) newcomer
            (All-set (λ u. HasShape s flux u.role u) all k hirer
            (subst (λ (r : Role). HasShape s flux r hirer) (sym is)
            record {
              system = desk_of_system.system;
              direct = desk_of_system.direct;
              of_taken = desk_of_system.of_taken;
              of_given = desk_of_system.of_given;
              of_hand = desk_of_system.of_hand;
              of_err = desk_of_system.of_err;
            })
            h.shape)
            (new_of_system s flux Actor);
        one_desk = number_hired is_desk ∙ (let one = h.one_desk in omega arith);
        desk = All-push (λ u. u.role ≡ Desk → IsDesk (number_of is_actor with_one) u) (set all k hirer) newcomer
            (each_other all k inside (λ u. u.role ≡ Desk → IsDesk (number_of is_actor with_one) u) hirer
            (λ _. record { empty = at_desk.empty; counts = let count = at_desk.counts in omega arith })
            (λ o l apart desk. absurd (others o l apart desk)))
            (λ desk. absurd (desk_apart Actor refl desk));
        parts = subst (λ (n : ℕ). All (λ u. u.parts ≡ parts_due n u.role) with_one) (sym retired)
            (All-push (λ u. u.parts ≡ parts_due (number_of is_retired all) u.role) (set all k hirer) newcomer
            (All-set (λ u. u.parts ≡ parts_due (number_of is_retired all) u.role) all k hirer (h.parts k spent_view inside) h.parts)
            refl);
      }

  -- an actor with nothing in hand is retired
  module _ (o : ℕ) (there : o < length all) (apart : o ≢ k) (actor : (get_or all o spent_view).role ≡ Actor) (empty : (j : ℕ) → hand_at j (get_or all o spent_view) ≡ 0) where
    abbrev u : View
    u = get_or all o spent_view

    abbrev retirer : View
    retirer = after_retire v u

    abbrev without_one : List View
    without_one = set (set all k retirer) o spent_view

    total_retired : (f : View → ℕ) → total f without_one + (f v + f u) ≡ total f all + (f retirer + f spent_view)
    total_retired f =
        let long = length-set all k retirer in
        let change = changed f retirer in
        let last = sum_by-set f (set all k retirer) o spent_view spent_view (omega arith) in
        let same = ap f (get_or-set_other all k o retirer spent_view apart) in
        omega arith

    number_actors : number_of is_actor without_one + 1 ≡ number_of is_actor all
    number_actors = let sums = total_retired (one_for is_actor) in let desk = ap (one_of is_actor) is in let one = ap (one_of is_actor) actor in omega arith

    number_retired : number_of is_retired without_one ≡ number_of is_retired all + 1
    number_retired = let sums = total_retired (one_for is_retired) in let desk = ap (one_of is_retired) is in let one = ap (one_of is_retired) actor in omega arith

    both_at : (f g : ℕ → ℕ) (j : ℕ) → j < patches s → get_or (at_each_patch v.system (λ m. f m + g m)) j 0 ≡ f j + g j
    both_at f g j l = let n = ap patches desk_of_system.system in list-at (λ m. f m + g m) (patches v.system) j (omega arith)

    passed_both : (j : ℕ) → passed_to s retirer.taken j ≡ passed_to s v.taken j + passed_to s u.taken j
    passed_both j =
        sum-same (patches s) (λ i. taken_at i retirer * coefficient s i j) (λ i. taken_at i v * coefficient s i j + taken_at i u * coefficient s i j)
        (λ i l. let m = ap (λ (x : ℕ). x * coefficient s i j) (both_at (λ m. taken_at m v) (λ m. taken_at m u) i l) in omega arith)
        ∙ sum-add (patches s) (λ i. taken_at i v * coefficient s i j) (λ i. taken_at i u * coefficient s i j)

    taken_both : sum_below (patches s) (λ i. taken_at i retirer) ≡ sum_below (patches s) (λ i. taken_at i v) + sum_below (patches s) (λ i. taken_at i u)
    taken_both =
        sum-same (patches s) (λ i. taken_at i retirer) (λ i. taken_at i v + taken_at i u) (λ i l. both_at (λ m. taken_at m v) (λ m. taken_at m u) i l)
        ∙ sum-add (patches s) (λ i. taken_at i v) (λ i. taken_at i u)

    -- what holds of the desk's new view, of the spent view and of each other
    all_retired : (Q : View → Type 0) → Q retirer → Q spent_view → ((m : ℕ) → m < length all → m ≢ k → Q (get_or all m spent_view)) → All Q without_one
    all_retired Q here spent rest = All-set Q (set all k retirer) o spent_view spent (each_other all k inside Q retirer here rest)

    nothing_of_spent : (j : ℕ) → passed_to s (spent_view).taken j ≡ 0
    nothing_of_spent j = sum-same (patches s) _ (λ _. 0) (λ i l. omega arith) ∙ sum-zero (patches s)

    pub retire_keeps : AccountsHold s flux residual without_one
    retire_keeps = record {
      system = h.system;
      limit = h.limit;
      of_direct = h.of_direct;
      of_words = h.of_words;
      words = λ j l.
          let old = h.words j l in
          let taken = total_retired (taken_at j) in
          let given = total_retired (given_at j) in
          let t = both_at (λ m. taken_at m v) (λ m. taken_at m u) j l in
          let g = both_at (λ m. given_at m v) (λ m. given_at m u) j l in
          omega arith;
      views = all_retired (IsBooked s)
          (λ j l.
          let g = both_at (λ m. given_at m v) (λ m. given_at m u) j l in
          let e = both_at (λ m. err_at m v) (λ m. err_at m u) j l in
          let desk = h.views k spent_view inside j l in
          let one = h.views o spent_view there j l in
          let none = at_desk.empty j in
          let clear = empty j in
          let passed = passed_both j in
          omega arith)
          (λ j l. let nothing = nothing_of_spent j in omega arith)
          (λ m l _. h.views m spent_view l);
      fractions = all_retired (HasFractions s)
          (λ j l.
          let e = both_at (λ m. err_at m v) (λ m. err_at m u) j l in
          let desk = h.fractions k spent_view inside j l in
          let one = h.fractions o spent_view there j l in
          omega arith)
          (λ j l. omega arith)
          (λ m l _. h.fractions m spent_view l);
      wins = all_retired (IsPaidFor s)
          (let desk = h.wins k spent_view inside in let one = h.wins o spent_view there in let sums = taken_both in omega arith)
          (omega arith)
          (λ m l _. h.wins m spent_view l);
      shape = all_retired (λ w. HasShape s flux w.role w)
          (subst (λ (r : Role). HasShape s flux r retirer) (sym is)
          record {
            system = desk_of_system.system;
            direct = desk_of_system.direct;
            of_taken = list-length _ (patches v.system) ∙ ap patches desk_of_system.system;
            of_given = list-length _ (patches v.system) ∙ ap patches desk_of_system.system;
            of_hand = desk_of_system.of_hand;
            of_err = list-length _ (patches v.system) ∙ ap patches desk_of_system.system;
          })
          refl
          (λ m l _. h.shape m spent_view l);
      one_desk = let one = h.one_desk in let sums = total_retired (one_for is_desk) in let none = ap (one_of is_desk) actor in omega arith;
      desk = all_retired (λ w. w.role ≡ Desk → IsDesk (number_of is_actor without_one) w)
          (λ _. record { empty = at_desk.empty; counts = let count = at_desk.counts in let fewer = number_actors in omega arith })
          (λ desk. absurd (retired_apart Retired refl desk))
          (λ m l away desk. absurd (others m l away desk));
      parts = all_retired (λ w. w.parts ≡ parts_due (number_of is_retired without_one) w.role)
          (let more = number_retired in let of_desk = desk_parts in let one = h.parts o spent_view there ∙ ap (parts_due (number_of is_retired all)) actor in let due = ap (parts_due (number_of is_retired without_one)) is in omega arith)
          refl
          (λ m l away. h.parts m spent_view l ∙ parts_same (number_of is_retired all) (number_of is_retired without_one) (get_or all m spent_view).role (others m l away));
    }
