-- A view: what an account has done with the flux of a system, as plain data; and what takes, gives, hires and retires do to it.
-- All of it is this project's own.
use Rattle.std.specs.Prelude.{ℕ, ◌+◌, ◌-◌, Bool, true, false, if◌then◌else◌, List, [], replicate, slice_index, slice_set, sum_by}
use Rattle.flux_system.specs.System.{FluxSystem, patches}
use Rattle.shot_core.specs.declared.roles.Role.{Role}
use Rattle.shot_core.specs.declared.roles.Role.TheVariants.{Desk, Actor, Retired}
use Rattle.shot_core.specs.declared.views.View.{View}
use Rattle.shot_core.specs.Shots.{at_each_patch, amounts_after, fractions_after}

-- nothing at each patch
abbrev pub nothing : FluxSystem → List ℕ
nothing s = replicate (patches s) 0

-- the view of an account that has done nothing yet
abbrev pub new_view : FluxSystem → List ℕ → Role → View
new_view s direct role = record {
  system = s;
  direct = direct;
  taken = nothing s;
  given = nothing s;
  hand = nothing s;
  err = nothing s;
  parts = 1;
  wins = 0;
  out = 0;
  role = role;
}

abbrev pub no_system : FluxSystem
no_system = record { threshold = 0; reflectance = []; shares = [] }

-- the view of an actor that was retired: it is always the same, and adds nothing to any sum
abbrev pub spent_view : View
spent_view = record {
  system = no_system;
  direct = [];
  taken = [];
  given = [];
  hand = [];
  err = [];
  parts = 0;
  wins = 0;
  out = 0;
  role = Retired;
}

-- after a take of t nanolumens from patch i: what the patch passes on is in hand, beside what was there
abbrev pub after_take : View → ℕ → ℕ → View
after_take v i t = record v {
  taken = slice_set v.taken i (slice_index v.taken i + t);
  hand = amounts_after v.system i t v.hand v.err;
  err = fractions_after v.system i t v.err;
  wins = v.wins + 1;
}

-- after patch j was given all that was in hand for it
abbrev pub after_give : View → ℕ → View
after_give v j = record v {
  given = slice_set v.given j (slice_index v.given j + slice_index v.hand j);
  hand = slice_set v.hand j 0;
}

-- the desk's view after a hire
abbrev pub after_hire : View → View
after_hire desk = record desk { out = desk.out + 1 }

-- two lists together, patch by patch
abbrev pub both : FluxSystem → List ℕ → List ℕ → List ℕ
both s xs ys = at_each_patch s (λ j. slice_index xs j + slice_index ys j)

-- the desk's view after an actor with nothing in hand was retired: its account is now part of the desk's
abbrev pub after_retire : View → View → View
after_retire desk v = record desk {
  taken = both desk.system desk.taken v.taken;
  given = both desk.system desk.given v.given;
  err = both desk.system desk.err v.err;
  parts = desk.parts + v.parts;
  wins = desk.wins + v.wins;
  out = desk.out - 1;
}

-- what a view has at patch j, and how often its account won; past the end of a list there is nothing
abbrev pub taken_at : ℕ → View → ℕ
taken_at j v = slice_index v.taken j

abbrev pub given_at : ℕ → View → ℕ
given_at j v = slice_index v.given j

abbrev pub hand_at : ℕ → View → ℕ
hand_at j v = slice_index v.hand j

abbrev pub err_at : ℕ → View → ℕ
err_at j v = slice_index v.err j

abbrev pub wins_of : View → ℕ
wins_of v = v.wins

-- the sum over all views of what f says of one
abbrev pub total : (View → ℕ) → List View → ℕ
total f views = sum_by f views

abbrev pub is_desk : Role → Bool
is_desk Desk = true
is_desk Actor = false
is_desk Retired = false

abbrev pub is_actor : Role → Bool
is_actor Desk = false
is_actor Actor = true
is_actor Retired = false

abbrev pub is_retired : Role → Bool
is_retired Desk = false
is_retired Actor = false
is_retired Retired = true

-- 1 for a view of such a role
abbrev pub one_for : (Role → Bool) → View → ℕ
one_for test v = if test v.role then 1 else 0

-- how many views are of such a role
abbrev pub number_of : (Role → Bool) → List View → ℕ
number_of test views = total (one_for test) views
