-- What a pass has done so far, turn by turn.
use Rattle.std.proofs.Common.{◌≡◌, ◌⊎◌, ℕ, ◌+◌, ◌%◌, ◌<◌, ◌≤◌, Bool, leb, cond, List, [], ◌∷◌, ◌++◌, All, map, set, refl, sym, ap, ◌∙◌, arith, None, Some, Option}
use Rattle.std.proofs.lemmas.Bool.{le-leb, lt-leb}
use Rattle.std.proofs.lemmas.List.{set-set}
use Rattle.std.proofs.lemmas.List.Elements.{All-head, All-tail}
use Rattle.flux_system.specs.System.{FluxSystem, patches}
use Rattle.shot_core.specs.declared.views.View.{View}
use Rattle.shot_core.specs.Views.{after_take}
use Rattle.flux_accounts.specs.declared.histories.Entry.{Entry}
use Rattle.flux_accounts.specs.declared.histories.History.{History}
use Rattle.flux_accounts.specs.declared.seats.Take.{Take}
use Rattle.flux_accounts.specs.declared.seats.Take.TheVariants.{Won, Low, Lost}
use Rattle.flux_accounts.specs.Answers.{IsTake}
use Rattle.shooter.specs.Moments.{Moment, Sighting, value_of, after_step, after_steps}
use Rattle.shooter.specs.Rules.{IsNext, HasNothing, AreInPass, group}
use Rattle.shooter.specs.Shooters.{steps_of}
use Rattle.shooter.specs.Layouts.{value_left, give_step}

-- what a take adds to the counts
abbrev pub won_of : Take → ℕ
won_of (Won t) = 1
won_of (Low seen) = 0
won_of (Lost seen found) = 0

abbrev pub low_of : Take → ℕ
low_of (Won t) = 0
low_of (Low seen) = 1
low_of (Lost seen found) = 0

abbrev pub lost_of : Take → ℕ
lost_of (Won t) = 0
lost_of (Low seen) = 0
lost_of (Lost seen found) = 1

-- the moment after a take of patch i, which left the account v
abbrev pub after_answer : Moment → ℕ → Take → View → Moment
after_answer m i answer v = record {
  remembered = set m.remembered i (value_left answer);
  looks = m.looks + 1;
  low = m.low + low_of answer;
  won = m.won + won_of answer;
  lost = m.lost + lost_of answer;
  account = v;
  due = None;
}

-- a look that reached the threshold asks for a take
due_is : (threshold i t : ℕ) → threshold ≤ t → ◌≡◌ {A = Option Sighting} (cond (leb threshold t) (Some (record { patch = i; value = t })) None) (Some (record { patch = i; value = t }))
due_is threshold i t enough = ap (λ (b : Bool). cond b (Some (record { patch = i; value = t })) None) (le-leb threshold t enough)

none_due : (threshold i t : ℕ) → t < threshold → ◌≡◌ {A = Option Sighting} (cond (leb threshold t) (Some (record { patch = i; value = t })) None) None
none_due threshold i t low = ap (λ (b : Bool). cond b (Some (record { patch = i; value = t })) None) (lt-leb threshold t low)

module _ (threshold : ℕ) (m : Moment) (i : ℕ) (h : History) (same : m.account ≡ h.account) where
  pub after_answer-is : (answer : Take) (new : History) → IsTake threshold h i answer new → after_steps threshold m (steps_of i answer) ≡ after_answer m i answer new.account
  after_answer-is (Won t) new is =
      let enough = is.0 in
      let due = due_is threshold i t enough in
      let low : m.low + cond (leb threshold t) 0 1 ≡ m.low + 0 = ap (λ (b : Bool). m.low + cond b 0 1) (le-leb threshold t enough) in
      let lost : m.lost ≡ m.lost + 0 = omega arith in
      let account = sym (ap (λ (x : History). x.account) is.1) in
      (λ k. record { remembered = set-set m.remembered i t 0 k; looks = m.looks + 1; low = low k; won = m.won + 1; lost = lost k; account = after_take (same k) i (value_of (due k)); due = None })
      ∙ (λ k. record { remembered = set m.remembered i 0; looks = m.looks + 1; low = m.low + 0; won = m.won + 1; lost = m.lost + 0; account = account k; due = None })
  after_answer-is (Low seen) new is =
      let small = is.0 in
      let due = none_due threshold i seen small in
      let low : m.low + cond (leb threshold seen) 0 1 ≡ m.low + 1 = ap (λ (b : Bool). m.low + cond b 0 1) (lt-leb threshold seen small) in
      let won : m.won ≡ m.won + 0 = omega arith in
      let lost : m.lost ≡ m.lost + 0 = omega arith in
      let account = same ∙ sym (ap (λ (x : History). x.account) is.1) in
      λ k. record { remembered = set m.remembered i seen; looks = m.looks + 1; low = low k; won = won k; lost = lost k; account = account k; due = due k }
  after_answer-is (Lost seen found) new is =
      let enough = is.0 in
      let low : m.low + cond (leb threshold seen) 0 1 ≡ m.low + 0 = ap (λ (b : Bool). m.low + cond b 0 1) (le-leb threshold seen enough) in
      let won : m.won ≡ m.won + 0 = omega arith in
      let account = same ∙ sym (ap (λ (x : History). x.account) is.1.1) in
      λ k. record { remembered = set-set m.remembered i seen found k; looks = m.looks + 1; low = low k; won = won k; lost = m.lost + 1; account = account k; due = None }

-- the steps of a take come where they may
module _ (s : FluxSystem) (cursor : ℕ) (m : Moment) (i : ℕ) (none : m.due ≡ None) (fewer : m.looks < patches s) (inside : i < patches s) (next : IsNext s cursor m i) (empty : m.looks % group ≡ 0 → HasNothing s m) where
  pub take_in_pass : (answer : Take) (h new : History) → IsTake s.threshold h i answer new → AreInPass s cursor m (steps_of i answer)
  take_in_pass (Won t) h new is =
      let due = due_is s.threshold i t is.0 in
      ((none, (fewer, (inside, (next, empty)))), ((due ∙ (λ k. Some (record { patch = i; value = sym (ap value_of due) k })), refl), refl))
  take_in_pass (Low seen) h new is = ((none, (fewer, (inside, (next, empty)))), none_due s.threshold i seen is.0)
  take_in_pass (Lost seen found) h new is =
      let due = due_is s.threshold i seen is.0 in
      ((none, (fewer, (inside, (next, empty)))), ((due ∙ (λ k. Some (record { patch = i; value = sym (ap value_of due) k })), (λ same. is.1.0 (same ∙ ap value_of due))), refl))

-- and so do gives, where a group or all looks are done
module _ (s : FluxSystem) (cursor : ℕ) where
  pub gives_in_pass : (gives : List Sighting) (m : Moment) → All (λ (g : Sighting). g.patch < patches s) gives → m.due ≡ None → (m.looks % group ≡ 0) ⊎ (m.looks ≡ patches s) → AreInPass s cursor m (map give_step gives)
  gives_in_pass [] m inside none done = none
  gives_in_pass (g ∷ gives) m inside none done =
      ((none, (All-head (λ (x : Sighting). x.patch < patches s) g gives inside, done)), gives_in_pass gives (after_step s.threshold m (give_step g)) (All-tail (λ (x : Sighting). x.patch < patches s) g gives inside) refl done)

  -- steps and then more steps
  pub in_pass-append : (steps more : List Entry) (m : Moment) → AreInPass s cursor m steps → AreInPass s cursor (after_steps s.threshold m steps) more → AreInPass s cursor m (steps ++ more)
  in_pass-append [] more m rules then_rules = then_rules
  in_pass-append (step ∷ steps) more m rules then_rules = (rules.0, in_pass-append steps more (after_step s.threshold m step) rules.1 then_rules)
