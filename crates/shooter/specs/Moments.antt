-- What a shooter has at each moment of a call, by the steps that the call has added to its seat's log.
-- All of it is this project's own.
use Rattle.std.specs.Prelude.{ℕ, ◌+◌, if◌then◌else◌, nat_le, List, [], ◌∷◌, Option, None, Some, slice_set}
use Rattle.shot_core.specs.declared.views.View.{View}
use Rattle.shot_core.specs.Views.{after_take, after_give}
use Rattle.flux_accounts.specs.declared.histories.Kind.{Kind}
use Rattle.flux_accounts.specs.declared.histories.Kind.TheVariants.{Look, Won, Lost, Give}
use Rattle.flux_accounts.specs.declared.histories.Entry.{Entry}

-- a patch whose word was seen to reach the threshold, and what it had
pub record Sighting : Type 0 where
  pub patch : ℕ
  pub value : ℕ

pub record Moment : Type 0 where
  -- for each patch what its word was last known to have: by the last step there, or from before the call
  pub remembered : List ℕ
  -- how many looks the call has made, and how many of them found less than the threshold
  pub looks : ℕ
  pub low : ℕ
  -- how many takes it has won and lost
  pub won : ℕ
  pub lost : ℕ
  -- the account of the seat
  pub account : View
  -- what the last step saw, where it was a look that reached the threshold
  pub due : Option Sighting

abbrev pub at_start : List ℕ → View → Moment
at_start remembered account = record {
  remembered = remembered;
  looks = 0;
  low = 0;
  won = 0;
  lost = 0;
  account = account;
  due = None;
}

abbrev pub value_of : Option Sighting → ℕ
value_of None = 0
value_of (Some sighting) = sighting.value

-- after a step of some kind on the word of patch j, of which it learnt this value
abbrev pub after_kind : ℕ → Moment → Kind → ℕ → ℕ → Moment
after_kind threshold m Look j value = record m {
  remembered = slice_set m.remembered j value;
  looks = m.looks + 1;
  low = m.low + (if nat_le threshold value then 0 else 1);
  due = if nat_le threshold value then Some (record { patch = j; value = value }) else None;
}
after_kind threshold m Won j value = record m {
  remembered = slice_set m.remembered j value;
  won = m.won + 1;
  account = after_take m.account j (value_of m.due);
  due = None;
}
after_kind threshold m Lost j value = record m {
  remembered = slice_set m.remembered j value;
  lost = m.lost + 1;
  due = None;
}
after_kind threshold m Give j value = record m {
  remembered = slice_set m.remembered j value;
  account = after_give m.account j;
  due = None;
}

abbrev pub after_step : ℕ → Moment → Entry → Moment
after_step threshold m step = after_kind threshold m step.kind step.patch step.value

-- after some steps, in order
abbrev pub after_steps : ℕ → Moment → List Entry → Moment
after_steps threshold m [] = m
after_steps threshold m (step ∷ steps) = after_steps threshold (after_step threshold m step) steps
