-- A shooting world: a word for each patch, the desk's view and the views of actors; and the events, where each is legal and what
-- it does. It is this project's own.
use Rattle.std.specs.Prelude.{ℕ, ◌+◌, Bool, ◌&&◌, if◌then◌else◌, nat_lt, nat_le, List, [], ◌∷◌, ◌++◌, length, slice_index, slice_index_or, slice_set}
use Rattle.flux_system.specs.System.{FluxSystem, patches}
use Rattle.shot_core.specs.declared.roles.Role.TheVariants.{Desk, Actor}
use Rattle.shot_core.specs.declared.views.View.{View}
use Rattle.shot_core.specs.declared.events.Event.{Event}
use Rattle.shot_core.specs.declared.events.Event.TheVariants.{Hire, Take, Give, Retire}
use Rattle.shot_core.specs.Hands.{is_empty}
use Rattle.shot_core.specs.Views.{new_view, spent_view, after_take, after_give, after_hire, after_retire, hand_at, is_actor}
use Rattle.shot_core.specs.Accounts.{AccountsHold}
use Rattle.shot_core.specs.Conserved.{IsConserved, WinsAreBounded, WordsAreBounded}

-- the first view is the desk's; the others are those of the actors in the order of hiring, of which there are at most as many as seats
pub record ShootingWorld : Type 0 where
  pub system : FluxSystem
  pub direct : List ℕ
  pub seats : ℕ
  pub words : List ℕ
  pub views : List View

-- a world before its first event: each word has the direct flux of its patch
abbrev pub new_world : FluxSystem → List ℕ → ℕ → ShootingWorld
new_world s direct seats = record { system = s; direct = direct; seats = seats; words = direct; views = new_view s direct Desk ∷ [] }

abbrev pub desk_of : ShootingWorld → View
desk_of w = slice_index_or w.views 0 spent_view

-- the view of an actor, which is the spent one where it was not hired
abbrev pub view_of : ShootingWorld → ℕ → View
view_of w actor = slice_index_or w.views (actor + 1) spent_view

-- the actor was hired and not retired
abbrev pub is_hired : ShootingWorld → ℕ → Bool
is_hired w actor = is_actor (view_of w actor).role

-- where an event is legal
abbrev pub is_legal : ShootingWorld → Event → Bool
is_legal w Hire = nat_le (length w.views) w.seats
is_legal w (Take actor patch) = is_hired w actor && (nat_lt patch (patches w.system) && nat_le w.system.threshold (slice_index w.words patch))
is_legal w (Give actor target) = is_hired w actor && nat_lt target (patches w.system)
is_legal w (Retire actor) = is_hired w actor && is_empty (view_of w actor).hand

-- what a legal event does
abbrev pub moved : ShootingWorld → Event → ShootingWorld
moved w Hire = record w { views = slice_set w.views 0 (after_hire (desk_of w)) ++ new_view w.system w.direct Actor ∷ [] }
moved w (Take actor patch) = record w {
  words = slice_set w.words patch 0;
  views = slice_set w.views (actor + 1) (after_take (view_of w actor) patch (slice_index w.words patch));
}
moved w (Give actor target) = record w {
  words = slice_set w.words target (slice_index w.words target + hand_at target (view_of w actor));
  views = slice_set w.views (actor + 1) (after_give (view_of w actor) target);
}
moved w (Retire actor) = record w { views = slice_set (slice_set w.views 0 (after_retire (desk_of w) (view_of w actor))) (actor + 1) spent_view }

-- an event that isn't legal changes nothing
abbrev pub after : ShootingWorld → Event → ShootingWorld
after w event = if is_legal w event then moved w event else w

-- the world after some events, in order
abbrev pub after_all : ShootingWorld → List Event → ShootingWorld
after_all w [] = w
after_all w (event ∷ events) = after_all (after w event) events

-- how many of them move it
abbrev pub number_moved : ShootingWorld → List Event → ℕ
number_moved w [] = 0
number_moved w (event ∷ events) = (if is_legal w event then 1 else 0) + number_moved (after w event) events

-- what holds of the words and views of a world
abbrev pub AccountsHoldIn : ShootingWorld → Type 0
AccountsHoldIn w = AccountsHold w.system w.direct w.words w.views

abbrev pub IsConservedIn : ShootingWorld → Type 0
IsConservedIn w = IsConserved w.system w.direct w.words w.views

abbrev pub WinsAreBoundedIn : ShootingWorld → Type 0
WinsAreBoundedIn w = WinsAreBounded w.system w.direct w.views

abbrev pub WordsAreBoundedIn : ShootingWorld → Type 0
WordsAreBoundedIn w = WordsAreBounded w.system w.words w.views
