-- What a legal event of an actor asks for and leads to, over the accounts in memory.
use Rattle.std.proofs.Common.{◌≡◌, ℕ, ◌+◌, ◌<◌, ◌≤◌, true, List, length, get_or, set, sym, ap, subst, ◌∙◌, arith}
use Rattle.std.proofs.lemmas.Bool.{and_parts}
use Rattle.flux_system.specs.System.{FluxSystem, patches}
use Rattle.shot_core.specs.declared.accounts.Account.{Account}
use Rattle.shot_core.specs.declared.accounts.DeskAccount.{DeskAccount}
use Rattle.shot_core.specs.declared.views.View.{View}
use Rattle.shot_core.specs.declared.events.Event.TheVariants.{Take, Give, Retire}
use Rattle.shot_core.specs.declared.worlds.World.TheInside.{Inside}
use Rattle.shot_core.specs.Shots.{amounts_after}
use Rattle.shot_core.specs.Views.{after_take, after_give, after_retire, taken_at, given_at, hand_at, err_at}
use Rattle.shot_core.specs.Accounts.{IsOfSystem}
use Rattle.shot_core.specs.World.{view_of, is_hired, is_legal, moved}
use Rattle.shot_core.specs.AccountViews.{desk_view, open_view}
use Rattle.shot_core.specs.Layouts.{IsWorld}
use Rattle.shot_core.proofs.Memory.{world_of, world, order, views-length, is_view, take_world, give_world, retire_world, taken_is_world}
use Rattle.shot_core.proofs.Fitting.{desk_shape, few_parts, actor_shape, some_out, word_fits, take_hand_fits, take_taken_fits, take_wins_fit, give_in_system, give_given_fits, retire_taken_fits, retire_given_fits, retire_err_fits, retire_wins_fit}

module _ (m : Inside) (ok : IsWorld m.system.value m.direct.value m.words m.desk m.hired m.actors.items) (actor : ℕ) (a : Account) (at : get_or m.actors.items actor a ≡ a) where
  abbrev s : FluxSystem
  s = m.system.value

  abbrev direct : List ℕ
  direct = m.direct.value

  -- the lists of an actor's account have a number for each patch
  module _ (hired : is_hired (world m ok) actor ≡ true) where
    shape : IsOfSystem s direct (open_view s direct a)
    shape = subst (IsOfSystem s direct) (is_view m ok actor a at hired) (actor_shape (world m ok) (order m ok) actor hired)

    -- what is said of its view in the world
    seen : open_view s direct a ≡ view_of (world m ok) actor
    seen = sym (is_view m ok actor a at hired)

  -- a take, over a system that is the world's and the word of the patch
  module _ (patch : ℕ) (legal : is_legal (world m ok) (Take actor patch) ≡ true) (system : FluxSystem) (same : system ≡ m.system.value) (t : ℕ) (t_is : t ≡ get_or m.words patch 0) where
    hired_taker : is_hired (world m ok) actor ≡ true
    hired_taker = (and_parts _ _ legal).0

    pub take_hand_length : length a.hand.amounts ≡ patches system
    take_hand_length = (shape hired_taker).of_hand ∙ ap patches (sym same)

    pub take_taken_length : length a.taken ≡ patches system
    take_taken_length = (shape hired_taker).of_taken ∙ ap patches (sym same)

    pub take_amounts : (j : ℕ) → j < patches system → get_or (amounts_after system patch t a.hand.amounts a.hand.fractions) j 0 < 18446744073709551616
    take_amounts j h =
        let n = ap patches same in
        let fits = take_hand_fits (world m ok) (order m ok) actor hired_taker patch legal j (omega arith) in
        let is = (λ i. get_or (amounts_after (same i) patch (t_is i) a.hand.amounts a.hand.fractions) j 0) ∙ ap (λ (v : View). hand_at j (after_take v patch (get_or m.words patch 0))) (seen hired_taker) in
        omega arith

    pub take_taken : get_or a.taken patch 0 + t < 18446744073709551616
    take_taken = let fits = take_taken_fits (world m ok) (order m ok) actor hired_taker patch legal in let is = ap (taken_at patch) (seen hired_taker) in omega arith

    pub take_wins : a.wins + 1 < 18446744073709551616
    take_wins = let fits = take_wins_fit (world m ok) (order m ok) actor hired_taker patch legal in let is = ap (λ (v : View). v.wins) (seen hired_taker) in omega arith

    module _ (words : List ℕ) (b : Account) (words_are : words ≡ set m.words patch 0) (view_is : (d : List ℕ) → open_view system d b ≡ after_take (open_view system d a) patch t) (retired : b.is_retired ≡ a.is_retired) where
      pub take_moved : world_of s direct words m.desk m.hired (set m.actors.items actor b) ≡ moved (world m ok) (Take actor patch)
      take_moved =
          take_world m ok actor a at hired_taker patch t words b words_are t_is (subst (λ (q : FluxSystem). open_view q direct b ≡ after_take (open_view q direct a) patch t) same (view_is direct)) retired

      pub take_is_world : IsWorld s direct words m.desk m.hired (set m.actors.items actor b)
      take_is_world = taken_is_world m ok actor a at hired_taker (Take actor patch) legal words m.desk b take_moved

  -- a give
  module _ (target : ℕ) (legal : is_legal (world m ok) (Give actor target) ≡ true) where
    hired_giver : is_hired (world m ok) actor ≡ true
    hired_giver = (and_parts _ _ legal).0

    pub give_hand_length : target < length a.hand.amounts
    give_hand_length = let long = (shape hired_giver).of_hand in let inside = give_in_system (world m ok) (order m ok) actor hired_giver target legal in omega arith

    pub give_given_length : target < length a.given
    give_given_length = let long = (shape hired_giver).of_given in let inside = give_in_system (world m ok) (order m ok) actor hired_giver target legal in omega arith

    pub give_given : get_or a.given target 0 + get_or a.hand.amounts target 0 < 18446744073709551616
    give_given =
        let fits = give_given_fits (world m ok) (order m ok) actor hired_giver target legal in
        let given = ap (given_at target) (seen hired_giver) in
        let hand = ap (hand_at target) (seen hired_giver) in
        omega arith

    pub give_word : get_or m.words target 0 + get_or a.hand.amounts target 0 < 18446744073709551616
    give_word =
        let fits = word_fits (world m ok) (order m ok) actor hired_giver target (give_in_system (world m ok) (order m ok) actor hired_giver target legal) in
        let hand = ap (hand_at target) (seen hired_giver) in
        omega arith

    module _ (words : List ℕ) (b : Account) (words_are : words ≡ set m.words target (get_or m.words target 0 + get_or a.hand.amounts target 0)) (view_is : open_view s direct b ≡ after_give (open_view s direct a) target) (retired : b.is_retired ≡ a.is_retired) where
      pub give_moved : world_of s direct words m.desk m.hired (set m.actors.items actor b) ≡ moved (world m ok) (Give actor target)
      give_moved = give_world m ok actor a at hired_giver target words b words_are view_is retired

      pub give_is_world : IsWorld s direct words m.desk m.hired (set m.actors.items actor b)
      give_is_world = taken_is_world m ok actor a at hired_giver (Give actor target) legal words m.desk b give_moved

  -- a retire
  module _ (legal : is_legal (world m ok) (Retire actor) ≡ true) where
    hired_retirer : is_hired (world m ok) actor ≡ true
    hired_retirer = (and_parts _ _ legal).0

    of_desk : IsOfSystem s direct (desk_view s direct m.desk)
    of_desk = desk_shape (world m ok) (order m ok)

    pub retire_desk_lengths : (length m.desk.given ≡ length m.desk.taken) × (length m.desk.err ≡ length m.desk.taken)
    retire_desk_lengths = (of_desk.of_given ∙ sym of_desk.of_taken, of_desk.of_err ∙ sym of_desk.of_taken)

    pub retire_lengths : (length a.taken ≡ length m.desk.taken) × ((length a.given ≡ length m.desk.taken) × (length a.hand.fractions ≡ length m.desk.taken))
    retire_lengths =
        let of = shape hired_retirer in
        (of.of_taken ∙ sym of_desk.of_taken, (of.of_given ∙ sym of_desk.of_taken, of.of_err ∙ sym of_desk.of_taken))

    in_patches : (j : ℕ) → j < length m.desk.taken → j < patches s
    in_patches j h = let long = of_desk.of_taken in omega arith

    pub retire_taken : (j : ℕ) → j < length m.desk.taken → get_or m.desk.taken j 0 + get_or a.taken j 0 < 18446744073709551616
    retire_taken j h = let fits = retire_taken_fits (world m ok) (order m ok) actor hired_retirer legal j (in_patches j h) in let is = ap (taken_at j) (seen hired_retirer) in omega arith

    pub retire_given : (j : ℕ) → j < length m.desk.taken → get_or m.desk.given j 0 + get_or a.given j 0 < 18446744073709551616
    retire_given j h = let fits = retire_given_fits (world m ok) (order m ok) actor hired_retirer legal j (in_patches j h) in let is = ap (given_at j) (seen hired_retirer) in omega arith

    few_views : length (world m ok).views ≤ 65
    few_views = let long = views-length s direct m.words m.desk m.hired m.actors.items ok.few in let few = ok.few in let seats = ok.seats in omega arith

    pub retire_err : (j : ℕ) → j < length m.desk.taken → get_or m.desk.err j 0 + get_or a.hand.fractions j 0 < 18446744073709551616
    retire_err j h = let fits = retire_err_fits (world m ok) (order m ok) actor hired_retirer legal few_views j (in_patches j h) in let is = ap (err_at j) (seen hired_retirer) in omega arith

    pub retire_parts : m.desk.parts + 1 < 4294967296
    retire_parts = let parts = few_parts (world m ok) (order m ok) in let few = few_views in omega arith

    pub retire_wins : m.desk.wins + a.wins < 18446744073709551616
    retire_wins = let fits = retire_wins_fit (world m ok) (order m ok) actor hired_retirer legal in let is = ap (λ (v : View). v.wins) (seen hired_retirer) in omega arith

    pub retire_out : 0 < m.desk.out
    retire_out = some_out (world m ok) (order m ok) actor hired_retirer

    module _ (desk : DeskAccount) (b : Account) (desk_is : (q : FluxSystem) (d : List ℕ) → patches q ≡ length m.desk.taken → desk_view q d desk ≡ after_retire (desk_view q d m.desk) (open_view q d a)) (retired : b.is_retired ≡ true) where
      pub retire_moved : world_of s direct m.words desk m.hired (set m.actors.items actor b) ≡ moved (world m ok) (Retire actor)
      retire_moved = retire_world m ok actor a at hired_retirer desk b (desk_is s direct (sym of_desk.of_taken)) retired

      pub retire_is_world : IsWorld s direct m.words desk m.hired (set m.actors.items actor b)
      retire_is_world = taken_is_world m ok actor a at hired_retirer (Retire actor) legal m.words desk b retire_moved
