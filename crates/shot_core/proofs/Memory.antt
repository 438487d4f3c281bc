-- A world in memory: its views, and what stays a world while its accounts change.
use Rattle.std.proofs.Common.{◌≡◌, ℕ, suc, ◌+◌, ◌<◌, ◌≤◌, Bool, true, false, not, cond, List, [], ◌∷◌, ◌++◌, map, take, length, get_or, set, refl, sym, ap, subst, ◌∙◌, arith, length-set, get_or-set_other}
use Rattle.std.proofs.Math.Seq.{take-set-lt, map-set}
use Rattle.std.proofs.lemmas.Bool.{true≢false}
use Rattle.std.proofs.lemmas.List.{length-take-le, length-map, get_or-map, get_or-take, get_or_past, map_more}
use Rattle.flux_system.specs.System.{FluxSystem}
use Rattle.flux_system.specs.declared.TheConstants.{MOST_SEATS}
use Rattle.shot_core.specs.declared.accounts.Account.{Account}
use Rattle.shot_core.specs.declared.accounts.DeskAccount.{DeskAccount}
use Rattle.shot_core.specs.declared.roles.Role.TheVariants.{Actor}
use Rattle.shot_core.specs.declared.views.View.{View}
use Rattle.shot_core.specs.declared.events.Event.{Event}
use Rattle.shot_core.specs.declared.events.Event.TheVariants.{Hire, Take, Give, Retire}
use Rattle.shot_core.specs.declared.worlds.World.TheInside.{Inside}
use Rattle.shot_core.specs.Views.{new_view, spent_view, after_take, after_give, after_hire, after_retire, hand_at, is_actor}
use Rattle.shot_core.specs.World.{ShootingWorld, view_of, is_hired, is_legal, moved, AccountsHoldIn}
use Rattle.shot_core.specs.AccountViews.{desk_view, open_view, account_view}
use Rattle.shot_core.specs.Layouts.{views_of, IsWorld, IsInOrder}
use Rattle.shot_core.proofs.Orders.{hired_inside, moved_in_order}

-- an account to name past the end of a list
no_account : Account
no_account = record { hand = record { amounts = []; fractions = [] }; taken = []; given = []; wins = 0; is_retired = true }

-- behind the first
get_after : (y : View) (ys : List View) (k : ℕ) → get_or (y ∷ ys) (k + 1) spent_view ≡ get_or ys k spent_view
get_after y ys k = let next : k + 1 ≡ suc k = omega arith in ap (λ (m : ℕ). get_or (y ∷ ys) m spent_view) next

set_after : (y : View) (ys : List View) (k : ℕ) (v : View) → set (y ∷ ys) (k + 1) v ≡ y ∷ set ys k v
set_after y ys k v = let next : k + 1 ≡ suc k = omega arith in ap (λ (m : ℕ). set (y ∷ ys) m v) next

module _ (s : FluxSystem) (direct words : List ℕ) (desk : DeskAccount) (hired : ℕ) (actors : List Account) where
  -- the world of some accounts
  abbrev pub world_of : ShootingWorld
  world_of = record { system = s; direct = direct; seats = length actors; words = words; views = views_of s direct desk hired actors }

  module _ (few : hired ≤ length actors) where
    pub views-length : length (views_of s direct desk hired actors) ≡ hired + 1
    views-length = let taken = length-take-le hired actors few in let mapped = length-map (take hired actors) (account_view s direct) in omega arith

    pub actor_view : (k : ℕ) (d : Account) → k < hired → view_of world_of k ≡ account_view s direct (get_or actors k d)
    actor_view k d there =
        let taken = length-take-le hired actors few in
        get_after (desk_view s direct desk) (map (account_view s direct) (take hired actors)) k
        ∙ (get_or-map (account_view s direct) (take hired actors) k d spent_view (omega arith) ∙ ap (account_view s direct) (get_or-take hired actors k d there))

    pub no_view : (k : ℕ) → hired ≤ k → view_of world_of k ≡ spent_view
    no_view k past = let long = views-length in get_or_past (views_of s direct desk hired actors) (k + 1) spent_view (omega arith)

    is_hired_in : (a : Account) → not a.is_retired ≡ is_actor (account_view s direct a).role
    is_hired_in a = cases a.is_retired
      where
        cases : (b : Bool) → not b ≡ is_actor (cond b spent_view (open_view s direct a)).role
        cases true = refl
        cases false = refl

    pub is_hired-there : (k : ℕ) (a : Account) → k < hired → get_or actors k a ≡ a → not a.is_retired ≡ is_hired world_of k
    is_hired-there k a there at = is_hired_in a ∙ ap (λ (v : View). is_actor v.role) (sym (actor_view k a there ∙ ap (account_view s direct) at))

    pub views_set : (k : ℕ) (a : Account) → k < hired → views_of s direct desk hired (set actors k a) ≡ set (views_of s direct desk hired actors) (k + 1) (account_view s direct a)
    views_set k a there =
        ap (λ (vs : List View). desk_view s direct desk ∷ vs)
        (ap (map (account_view s direct)) (take-set-lt hired actors k a there) ∙ map-set (account_view s direct) (take hired actors) k a)
        ∙ sym (set_after (desk_view s direct desk) (map (account_view s direct) (take hired actors)) k (account_view s direct a))

-- what a world in memory is
module _ (m : Inside) (ok : IsWorld m.system.value m.direct.value m.words m.desk m.hired m.actors.items) where
  abbrev s : FluxSystem
  s = m.system.value

  abbrev direct : List ℕ
  direct = m.direct.value

  abbrev pub world : ShootingWorld
  world = world_of s direct m.words m.desk m.hired m.actors.items

  pub order : IsInOrder world
  order = let long = views-length s direct m.words m.desk m.hired m.actors.items ok.few in record { accounts = ok.accounts; first = omega arith; at_desk = refl }

  -- accounts that are what a legal event makes of them are those of a world
  changed_is_world : (event : Event) → is_legal world event ≡ true → (words : List ℕ) (desk : DeskAccount) (hired : ℕ) (actors : List Account) → world_of s direct words desk hired actors ≡ moved world event
      → hired ≤ length actors → length actors ≤ MOST_SEATS
      → ((k : ℕ) (d : Account) → hired ≤ k → k < length actors → account_view s direct (get_or actors k d) ≡ new_view s direct Actor) → IsWorld s direct words desk hired actors
  changed_is_world event legal words desk hired actors same few seats fresh = record {
    accounts = subst AccountsHoldIn (sym same) (moved_in_order world order event legal).accounts;
    few = few;
    seats = seats;
    fresh = fresh;
  }

  -- the next actor is hired
  module _ (free : m.hired < length m.actors.items) (desk : DeskAccount) (desk_is : desk_view s direct desk ≡ after_hire (desk_view s direct m.desk)) where
    pub hire_world : world_of s direct m.words desk (m.hired + 1) m.actors.items ≡ moved world Hire
    hire_world =
        let actor : Account = get_or m.actors.items m.hired no_account in
        let more = map_more (account_view s direct) m.actors.items m.hired no_account free in
        let new = ok.fresh m.hired no_account (omega arith) free in
        let views : views_of s direct desk (m.hired + 1) m.actors.items ≡ (after_hire (desk_view s direct m.desk) ∷ map (account_view s direct) (take m.hired m.actors.items)) ++ new_view s direct Actor ∷ [] =
        (λ i. desk_is i ∷ more i) ∙ ap (λ (v : View). after_hire (desk_view s direct m.desk) ∷ (map (account_view s direct) (take m.hired m.actors.items) ++ v ∷ [])) new in
        λ i. record { system = s; direct = direct; seats = length m.actors.items; words = m.words; views = views i }

    pub hired_is_world : is_legal world Hire ≡ true → IsWorld s direct m.words desk (m.hired + 1) m.actors.items
    hired_is_world legal = changed_is_world Hire legal m.words desk (m.hired + 1) m.actors.items hire_world (omega arith) ok.seats (λ k d past inside. ok.fresh k d (omega arith) inside)

  -- an actor that was hired and not retired
  module _ (actor : ℕ) (a : Account) (at : get_or m.actors.items actor a ≡ a) (is : is_hired world actor ≡ true) where
    pub there : actor < m.hired
    there = let inside = hired_inside world actor is in let long = views-length s direct m.words m.desk m.hired m.actors.items ok.few in omega arith

    of_account : view_of world actor ≡ account_view s direct a
    of_account = actor_view s direct m.words m.desk m.hired m.actors.items ok.few actor a there ∙ ap (account_view s direct) at

    pub is_open : a.is_retired ≡ false
    is_open = cases a.is_retired (is_hired-there s direct m.words m.desk m.hired m.actors.items ok.few actor a there at ∙ is)
      where
        cases : (b : Bool) → not b ≡ true → b ≡ false
        cases true e = absurd (true≢false (sym e))
        cases false e = refl

    pub is_view : view_of world actor ≡ open_view s direct a
    is_view = of_account ∙ ap (λ b. cond b spent_view (open_view s direct a)) is_open

    -- another account in its place
    still_fresh : (b : Account) (k : ℕ) (d : Account) → m.hired ≤ k → k < length (set m.actors.items actor b) → account_view s direct (get_or (set m.actors.items actor b) k d) ≡ new_view s direct Actor
    still_fresh b k d past inside =
        let long = length-set m.actors.items actor b in
        let before = there in
        ap (account_view s direct) (get_or-set_other m.actors.items actor k b d (λ e. absurd (omega arith))) ∙ ok.fresh k d past (omega arith)

    changed_account : (b : Account) (v : View) → open_view s direct b ≡ v → b.is_retired ≡ false → account_view s direct b ≡ v
    changed_account b v is_v open_b = ap (λ c. cond c spent_view (open_view s direct b)) open_b ∙ is_v

    -- with a view v, where the words are some
    placed : (words : List ℕ) (b : Account) (v : View) → account_view s direct b ≡ v → world_of s direct words m.desk m.hired (set m.actors.items actor b) ≡ record world { words = words; views = set world.views (actor + 1) v }
    placed words b v is_v =
        let views = views_set s direct words m.desk m.hired m.actors.items ok.few actor b there ∙ ap (set world.views (actor + 1)) is_v in
        let seats = length-set m.actors.items actor b in
        λ i. record { system = s; direct = direct; seats = seats i; words = words; views = views i }

    pub take_world : (patch t : ℕ) (words : List ℕ) (b : Account) → words ≡ set m.words patch 0 → t ≡ get_or m.words patch 0 → open_view s direct b ≡ after_take (open_view s direct a) patch t → b.is_retired ≡ a.is_retired
        → world_of s direct words m.desk m.hired (set m.actors.items actor b) ≡ moved world (Take actor patch)
    take_world patch t words b words_are t_is view_is retired =
        let v = changed_account b _ (view_is ∙ (λ i. after_take (sym is_view i) patch (t_is i))) (retired ∙ is_open) in
        placed words b _ v ∙ ap (λ (ws : List ℕ). record world { words = ws; views = set world.views (actor + 1) (after_take (view_of world actor) patch (get_or m.words patch 0)) }) words_are

    pub give_world : (target : ℕ) (words : List ℕ) (b : Account) → words ≡ set m.words target (get_or m.words target 0 + hand_at target (open_view s direct a)) → open_view s direct b ≡ after_give (open_view s direct a) target
        → b.is_retired ≡ a.is_retired → world_of s direct words m.desk m.hired (set m.actors.items actor b) ≡ moved world (Give actor target)
    give_world target words b words_are view_is retired =
        let v = changed_account b _ (view_is ∙ ap (λ (x : View). after_give x target) (sym is_view)) (retired ∙ is_open) in
        placed words b _ v
        ∙ ap (λ (ws : List ℕ). record world { words = ws; views = set world.views (actor + 1) (after_give (view_of world actor) target) })
        (words_are ∙ ap (λ (x : View). set m.words target (get_or m.words target 0 + hand_at target x)) (sym is_view))

    pub retire_world : (desk : DeskAccount) (b : Account) → desk_view s direct desk ≡ after_retire (desk_view s direct m.desk) (open_view s direct a) → b.is_retired ≡ true
        → world_of s direct m.words desk m.hired (set m.actors.items actor b) ≡ moved world (Retire actor)
    retire_world desk b desk_is retired =
        let spent : account_view s direct b ≡ spent_view = ap (λ c. cond c spent_view (open_view s direct b)) retired in
        let views = views_set s direct m.words desk m.hired m.actors.items ok.few actor b there ∙ ap (set (views_of s direct desk m.hired m.actors.items) (actor + 1)) spent in
        let desks = desk_is ∙ ap (after_retire (desk_view s direct m.desk)) (sym is_view) in
        let seats = length-set m.actors.items actor b in
        (λ i. record { system = s; direct = direct; seats = seats i; words = m.words; views = views i })
        ∙ ap (λ (d : View). record world { views = set (d ∷ map (account_view s direct) (take m.hired m.actors.items)) (actor + 1) spent_view }) desks

    -- what stays a world
    pub taken_is_world : (event : Event) → is_legal world event ≡ true → (words : List ℕ) (desk : DeskAccount) (b : Account) → world_of s direct words desk m.hired (set m.actors.items actor b) ≡ moved world event
        → IsWorld s direct words desk m.hired (set m.actors.items actor b)
    taken_is_world event legal words desk b same =
        let long = length-set m.actors.items actor b in
        let few = ok.few in
        let seats = ok.seats in
        changed_is_world event legal words desk m.hired (set m.actors.items actor b) same (omega arith) (omega arith) (still_fresh b)
