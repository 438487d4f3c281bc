-- The ledger of a bank whose seats are all retired is that of its desk.
use Rattle.std.proofs.Common.{◌≡◌, ◌≢◌, ℕ, ◌+◌, ◌<◌, List, [], ◌∷◌, All, map, length, get_or, set, refl, sym, ap, subst, ◌∙◌, arith}
use Rattle.std.proofs.lemmas.List.FromFn.{fill_by_all}
use Rattle.std.proofs.lemmas.List.Elements.{All-head, All-tail}
use Rattle.std.proofs.lemmas.List.Sums.{sum_by-cons, sum_by-set, get_or-le-sum_by}
use Rattle.atomic_table.specs.Seated.{TableId}
use Rattle.atomic_table.specs.Table.{Final, Seen}
use Rattle.flux_system.specs.System.{FluxSystem, patches}
use Rattle.flux_ledger.specs.declared.ledger.Ledger.{Ledger}
use Rattle.flux_ledger.specs.Balance.{IsBalanced, IsPaid}
use Rattle.flux_ledger.proofs.Bounds.{balanced}
use Rattle.shot_core.specs.declared.roles.Role.{Role}
use Rattle.shot_core.specs.declared.roles.Role.TheVariants.{Desk, Actor, Retired}
use Rattle.shot_core.specs.declared.views.View.{View}
use Rattle.shot_core.specs.Views.{spent_view, taken_at, hand_at, err_at, wins_of, total, is_actor, one_for, number_of}
use Rattle.shot_core.specs.Accounts.{AccountsHold, HasShape}
use Rattle.shot_core.proofs.Pooled.{pooled, parts_in, balances_pooled, paid_pooled}
use Rattle.shot_core.proofs.RoleCounts.{one_of, only_desk, each_other}
use Rattle.shot_core.proofs.HiresRetires.{at_desk, desk_of_system}
use Rattle.flux_accounts.specs.declared.histories.History.{History}
use Rattle.flux_accounts.specs.Histories.{account_of}
use Rattle.flux_accounts.specs.Rule.{AreKept}
use Rattle.flux_accounts.specs.Layouts.{BankLayout, DeskLayout}
use Rattle.flux_accounts.proofs.Steps.{word_at, account_at}

total-none : (f : View → ℕ) (vs : List View) → All (λ v. f v ≡ 0) vs → total f vs ≡ 0
total-none f [] h = refl
total-none f (v ∷ vs) h = let here = All-head (λ w. f w ≡ 0) v vs h in omega (arith, sum_by-cons f v vs, total-none f vs (All-tail (λ w. f w ≡ 0) v vs h))

-- one that is neither the desk's nor an actor's is spent
spent_shape : (s : FluxSystem) (flux : List ℕ) (r : Role) (v : View) → r ≢ Desk → r ≢ Actor → HasShape s flux r v → v ≡ spent_view
spent_shape s flux Desk v not_desk not_actor shape = absurd (not_desk refl)
spent_shape s flux Actor v not_desk not_actor shape = absurd (not_actor refl)
spent_shape s flux Retired v not_desk not_actor shape = shape

module _ (s : FluxSystem) (direct residual : List ℕ) (all : List View) (h : AccountsHold s direct residual all) (k : ℕ) (inside : k < length all) (is : (get_or all k spent_view).role ≡ Desk) (nobody : (get_or all k spent_view).out ≡ 0) where
  abbrev desk : View
  desk = get_or all k spent_view

  nobody_out : number_of is_actor all ≡ 0
  nobody_out = sym (at_desk s direct residual all h k inside is).counts ∙ nobody

  all_spent : (o : ℕ) → o < length all → o ≢ k → get_or all o spent_view ≡ spent_view
  all_spent o there apart =
      spent_shape s direct (get_or all o spent_view).role (get_or all o spent_view) (only_desk all k inside h.one_desk is o there apart)
      (λ actor. let le = get_or-le-sum_by (one_for is_actor) all o spent_view there in let none = nobody_out in let one = ap (one_of is_actor) actor in absurd (omega arith))
      (h.shape o spent_view there)

  -- a sum over all views is that of the desk's
  alone : (f : View → ℕ) → f spent_view ≡ 0 → total f all ≡ f desk
  alone f none =
      let change = sum_by-set f all k spent_view spent_view inside in
      let rest = total-none f (set all k spent_view) (each_other all k inside (λ v. f v ≡ 0) spent_view none (λ o there apart. ap f (all_spent o there apart) ∙ none)) in
      omega arith

  ledger_is : (l : Ledger) → l.direct ≡ direct → l.taken ≡ desk.taken → length l.residual ≡ patches s → ((j : ℕ) → j < patches s → get_or l.residual j 0 ≡ get_or residual j 0) → l.err ≡ desk.err → l.parts ≡ desk.parts → l.wins ≡ desk.wins
      → l ≡ pooled s direct residual all h
  ledger_is l direct_is taken_is long same err_is parts_is wins_is =
      let shape = desk_of_system s direct residual all h k inside is in
      let empty = (at_desk s direct residual all h k inside is).empty in
      let taken = taken_is ∙ fill_by_all (λ (j : ℕ). total (taken_at j) all) desk.taken (patches s) 0 shape.of_taken (λ j _. sym (alone (taken_at j) refl)) in
      let left = fill_by_all (λ (j : ℕ). get_or residual j 0 + total (hand_at j) all) l.residual (patches s) 0 long (λ j inside_too. let word = same j inside_too in let hand = alone (hand_at j) refl in let none = empty j in omega arith) in
      let err = err_is ∙ fill_by_all (λ (j : ℕ). total (err_at j) all) desk.err (patches s) 0 shape.of_err (λ j _. sym (alone (err_at j) refl)) in
      let parts = parts_is ∙ sym (alone parts_in refl) in
      let wins = wins_is ∙ sym (alone wins_of refl) in
      λ i. record { direct = direct_is i; taken = taken i; residual = left i; err = err i; parts = parts i; wins = wins i }

  pub ledger_balances : (l : Ledger) → l ≡ pooled s direct residual all h → IsBalanced s l × IsPaid s l
  ledger_balances l same =
      let b = balances_pooled s direct residual all h in
      let paid = paid_pooled s direct residual all h in
      (subst (IsBalanced s) (sym same) (balanced s h.system (pooled s direct residual all h) b paid), subst (IsPaid s) (sym same) paid)

-- a closed table of which the desk's history is known
module _ (s : FluxSystem) (direct : List ℕ) (id : ℕ) (h : History) (words : List ℕ) (slots : List (Unit {0})) (final : Final (Seen (AreKept s direct) id h) words slots) (desk : h.account.role ≡ Desk) (out : h.account.out ≡ 0) where
  pub closes : (l : Ledger) → l.direct ≡ direct → l.taken ≡ h.account.taken → length l.residual ≡ patches s → ((j : ℕ) → j < patches s → get_or l.residual j 0 ≡ get_or words (j + 1) 0) → l.err ≡ h.account.err → l.parts ≡ h.account.parts → l.wins ≡ h.account.wins
      → IsBalanced s l × IsPaid s l
  closes l direct_is taken_is long same err_is parts_is wins_is =
      let t = final.0 in
      let kept = final.1.0 in
      let place = account_at s direct t id h final.1.1 in
      let all : List View = map account_of t.views in
      let is = ap (λ (v : View). v.role) place.1 ∙ desk in
      let nobody = ap (λ (v : View). v.out) place.1 ∙ out in
      let read : (j : ℕ) → j < patches s → get_or l.residual j 0 ≡ get_or kept.residual j 0 = λ j inside. same j inside ∙ (ap (λ (ws : List ℕ). get_or ws (j + 1) 0) (sym final.2) ∙ word_at s direct t kept j) in
      ledger_balances s direct kept.residual all kept.accounts id place.0 is nobody l
      (ledger_is s direct kept.residual all kept.accounts id place.0 is nobody l direct_is (taken_is ∙ sym (ap (λ (v : View). v.taken) place.1)) long read (err_is ∙ sym (ap (λ (v : View). v.err) place.1)) (parts_is ∙ sym (ap (λ (v : View). v.parts) place.1))
      (wins_is ∙ sym (ap (λ (v : View). v.wins) place.1)))

-- the same of what a bank and its desk have in memory
module _ (s : FluxSystem) (direct own_direct : List ℕ) (table : TableId) (bank : BankLayout table s direct own_direct) (id : ℕ) (h : History) (words : List ℕ) (slots : List (Unit {0})) (final : Final (Seen (AreKept s direct) id h) words slots) (taken err : List ℕ) (parts wins own_out : ℕ) (desk : DeskLayout taken err parts wins own_out h.account) (out : h.account.out ≡ 0) where
  pub closed_ledger : (residual : List ℕ) (n : ℕ) → n ≡ length own_direct → (length residual ≡ n) × ((j : ℕ) → j < n → get_or residual j 0 ≡ get_or words (j + 1) 0)
      → let l : Ledger = record { direct = own_direct; taken = taken; residual = residual; err = err; parts = parts; wins = wins } in IsBalanced s l × IsPaid s l
  closed_ledger residual n n_is read =
      let patches_are : n ≡ patches s = n_is ∙ (ap length bank.same ∙ bank.lengths) in
      closes s direct id h words slots final desk.desk out _ bank.same desk.taken (read.0 ∙ patches_are) (λ j inside. read.1 j (omega arith)) desk.err desk.parts desk.wins
