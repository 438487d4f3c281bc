-- What holds of hidden places.
use Rattle.std.specs.Prelude.{◌≡◌, ◌↔◌, IsTrue, ℤ, false, List, []}
use Rattle.room_patches.specs.declared.box_spec.BoxSpec.{BoxSpec}
use Rattle.visibility.specs.Hidden.{AreHidden}
use Rattle.visibility.specs.Stretches.{hidden}

-- the test is the definition
abbrev pub HiddenWhereInside : Type 0
HiddenWhereInside = (boxes : List BoxSpec) (from to : List ℤ) → IsTrue (hidden boxes from to) ↔ AreHidden boxes from to

-- two places are hidden from each other, or neither from the other
abbrev pub HiddenBothWays : Type 0
HiddenBothWays = (boxes : List BoxSpec) (from to : List ℤ) → hidden boxes from to ≡ hidden boxes to from

-- no box hides nothing
abbrev pub NothingHiddenWithoutBoxes : Type 0
NothingHiddenWithoutBoxes = (from to : List ℤ) → hidden [] from to ≡ false
