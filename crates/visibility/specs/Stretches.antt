-- Whether boxes hide two places from each other, as a test of whole numbers that forms no point. It is a law that it says what `AreHidden` says.
use Rattle.std.specs.Prelude.{ℕ, ◌*◌, ◌==◌, ℤ, pos, ◌-ℤ◌, ◌*ℤ◌, nat_lt, int_lt, int_le, unsigned_abs, Bool, ◌&&◌, ◌||◌, if◌then◌else◌, List}
use Rattle.std.specs.Int.{int_max, int_min}
use Rattle.std.specs.List.{list_any}
use Rattle.room_patches.specs.declared.box_spec.BoxSpec.{BoxSpec}
use Rattle.room_patches.specs.Places.{coordinate}
use Rattle.visibility.specs.declared.stretch.Stretch.{Stretch}

-- some of the way along one axis lies strictly between two faces of a box
unfoldable pub comes_between : ℕ → ℕ → ℤ → ℤ → Bool
comes_between low high from to = int_lt (pos (2 * low)) (int_max from to) && int_lt (int_min from to) (pos (2 * high)) && nat_lt low high

-- the stretch of the way between two faces of a box along one axis, in half-millimetres from where the way starts
unfoldable pub stretch : ℕ → ℕ → ℤ → ℤ → Stretch
stretch low high from to =
    if int_le from to
    then record { low = pos (2 * low) -ℤ from; high = pos (2 * high) -ℤ from; whole = unsigned_abs (to -ℤ from) }
    else record { low = from -ℤ pos (2 * high); high = from -ℤ pos (2 * low); whole = unsigned_abs (to -ℤ from) }

-- the way comes to one stretch before it has left another: low / whole of the one is below high / whole of the other
abbrev pub begins_before_end : Stretch → Stretch → Bool
begins_before_end part other = int_lt (part.low *ℤ pos other.whole) (other.high *ℤ pos part.whole)

-- The way is within two stretches at once, where it comes to each of them. Along an axis on which the places do not differ, all of the way is.
unfoldable pub meets : Stretch → Stretch → Bool
meets part other = part.whole == 0 || other.whole == 0 || begins_before_end part other && begins_before_end other part

-- the way is within three stretches at once, as it is where it is so within each two of them
abbrev pub all_meet : Stretch → Stretch → Stretch → Bool
all_meet x y z = meets x y && meets x z && meets y z

-- the way is between the faces of a box along all three axes at once, where it comes between them along each
unfoldable pub is_pierced : BoxSpec → List ℤ → List ℤ → Bool
is_pierced box from to = all_meet
    (stretch box.x0 box.x1 (coordinate from 0) (coordinate to 0))
    (stretch box.y0 box.y1 (coordinate from 1) (coordinate to 1))
    (stretch box.z0 box.z1 (coordinate from 2) (coordinate to 2))

-- whether a box hides two places from each other
unfoldable pub hides : BoxSpec → List ℤ → List ℤ → Bool
hides box from to =
    comes_between box.x0 box.x1 (coordinate from 0) (coordinate to 0)
    && comes_between box.y0 box.y1 (coordinate from 1) (coordinate to 1)
    && comes_between box.z0 box.z1 (coordinate from 2) (coordinate to 2)
    && is_pierced box from to

-- whether one of the boxes does
unfoldable pub hidden : List BoxSpec → List ℤ → List ℤ → Bool
hidden boxes from to = list_any (λ box. hides box from to) boxes
