-- Boxes hide two places from each other exactly where the test says so.
use Rattle.std.proofs.Common.{◌≡◌, ◌-◌, ℤ, Bool, true, false, ◌&&◌, List, [], refl, arith}
use Rattle.std.specs.Bool.{Decides, one_answer}
use Rattle.std.specs.List.{Any}
use Rattle.std.proofs.lemmas.Bool.{and_parts, and_from}
use Rattle.std.proofs.lemmas.List.Folds.{Any-from_list_any, list_any-from_Any}
use Rattle.room_patches.specs.declared.box_spec.BoxSpec.{BoxSpec}
use Rattle.room_patches.specs.Places.{coordinate}
use Rattle.visibility.specs.declared.stretch.Stretch.{Stretch}
use Rattle.visibility.specs.Hidden.{Hides, AreHidden}
use Rattle.visibility.specs.Stretches.{all_meet, comes_between, hidden, hides, is_pierced, meets, stretch}
use Rattle.visibility.proofs.Fractions.{shared}
use Rattle.visibility.proofs.Ways.{between_where_reached, crossed_within, is_span, is_within, met_where_crossed, overlaps, reached_where_between, reached_within, span_of}
use Rattle.visibility.proofs.Points.{between_turned, between_where_within, within_where_between}

module _ (box : BoxSpec) (from to : List ℤ) where
  abbrev x : Stretch
  x = stretch box.x0 box.x1 (coordinate from 0) (coordinate to 0)

  abbrev y : Stretch
  y = stretch box.y0 box.y1 (coordinate from 1) (coordinate to 1)

  abbrev z : Stretch
  z = stretch box.z0 box.z1 (coordinate from 2) (coordinate to 2)

  abbrev along_x : Bool
  along_x = comes_between box.x0 box.x1 (coordinate from 0) (coordinate to 0)

  abbrev along_y : Bool
  along_y = comes_between box.y0 box.y1 (coordinate from 1) (coordinate to 1)

  abbrev along_z : Bool
  along_z = comes_between box.z0 box.z1 (coordinate from 2) (coordinate to 2)

  hides_where_inside : Hides box from to → hides box from to ≡ true
  unfolding hides is_pierced
  hides_where_inside h =
      let on_x = within_where_between box.x0 box.x1 (coordinate from 0) (coordinate to 0) h.num h.den h.within h.inside.x in
      let on_y = within_where_between box.y0 box.y1 (coordinate from 1) (coordinate to 1) h.num h.den h.within h.inside.y in
      let on_z = within_where_between box.z0 box.z1 (coordinate from 2) (coordinate to 2) h.num h.den h.within h.inside.z in
      let has_x = between_where_reached box.x0 box.x1 (coordinate from 0) (coordinate to 0) (reached_within x h.num h.den h.positive h.within on_x) in
      let has_y = between_where_reached box.y0 box.y1 (coordinate from 1) (coordinate to 1) (reached_within y h.num h.den h.positive h.within on_y) in
      let has_z = between_where_reached box.z0 box.z1 (coordinate from 2) (coordinate to 2) (reached_within z h.num h.den h.positive h.within on_z) in
      let xy = met_where_crossed x y (crossed_within x y h.num h.den h.positive on_x on_y) in
      let xz = met_where_crossed x z (crossed_within x z h.num h.den h.positive on_x on_z) in
      let yz = met_where_crossed y z (crossed_within y z h.num h.den h.positive on_y on_z) in
      and_from (along_x && along_y && along_z) (all_meet x y z)
      (and_from (along_x && along_y) along_z (and_from along_x along_y has_x has_y) has_z)
      (and_from (meets x y && meets x z) (meets y z) (and_from (meets x y) (meets x z) xy xz) yz)

  inside_where_hides : hides box from to ≡ true → Hides box from to
  unfolding hides is_pierced
  inside_where_hides h =
      let whole = and_parts (along_x && along_y && along_z) (all_meet x y z) h in
      let axes = and_parts (along_x && along_y) along_z whole.0 in
      let level = and_parts along_x along_y axes.0 in
      let met = and_parts (meets x y && meets x z) (meets y z) whole.1 in
      let met_x = and_parts (meets x y) (meets x z) met.0 in
      let on_x = reached_where_between box.x0 box.x1 (coordinate from 0) (coordinate to 0) level.0 in
      let on_y = reached_where_between box.y0 box.y1 (coordinate from 1) (coordinate to 1) level.1 in
      let on_z = reached_where_between box.z0 box.z1 (coordinate from 2) (coordinate to 2) axes.1 in
      let point = shared (span_of x) (span_of y) (span_of z) (is_span x on_x) (is_span y on_y) (is_span z on_z)
      (overlaps x y on_x on_y met_x.0) (overlaps x z on_x on_z met_x.1) (overlaps y z on_y on_z met.1) in
      let num = point.0.top in
      let den = point.0.bottom in
      let within = point.1.proper.within in
      record {
        num = num;
        den = den;
        positive = point.1.proper.positive;
        within = within;
        inside = record {
          x = between_where_within box.x0 box.x1 (coordinate from 0) (coordinate to 0) num den within (is_within x point.0 on_x point.1.proper point.1.first);
          y = between_where_within box.y0 box.y1 (coordinate from 1) (coordinate to 1) num den within (is_within y point.0 on_y point.1.proper point.1.second);
          z = between_where_within box.z0 box.z1 (coordinate from 2) (coordinate to 2) num den within (is_within z point.0 on_z point.1.proper point.1.third);
        };
      }

  -- a box that hides one place from another hides the other from it
  hides_back : Hides box from to → Hides box to from
  hides_back h = record {
    num = h.den - h.num;
    den = h.den;
    positive = h.positive;
    within = omega arith;
    inside = record {
      x = between_turned box.x0 box.x1 (coordinate from 0) (coordinate to 0) h.num h.den h.within h.inside.x;
      y = between_turned box.y0 box.y1 (coordinate from 1) (coordinate to 1) h.num h.den h.within h.inside.y;
      z = between_turned box.z0 box.z1 (coordinate from 2) (coordinate to 2) h.num h.den h.within h.inside.z;
    };
  }

Any-implies : {X : Type 0} (P Q : X → Type 0) (xs : List X) → ((x : X) → P x → Q x) → Any P xs → Any Q xs
Any-implies P Q xs step any = (any.0, any.1, any.2, any.3, step any.1 any.4)

module _ (boxes : List BoxSpec) (from to : List ℤ) where
  -- the test is the definition
  pub hidden_decides : Decides (hidden boxes from to) (AreHidden boxes from to)
  unfolding hidden
  hidden_decides = (
    λ h. Any-implies (λ box. hides box from to ≡ true) (λ box. Hides box from to) boxes (λ box. inside_where_hides box from to) (Any-from_list_any (λ box. hides box from to) boxes h),
    λ h. list_any-from_Any (λ box. hides box from to) boxes
        (Any-implies (λ box. Hides box from to) (λ box. hides box from to ≡ true) boxes (λ box. hides_where_inside box from to) h),
  )

  hidden_back : AreHidden boxes from to → AreHidden boxes to from
  hidden_back = Any-implies (λ box. Hides box from to) (λ box. Hides box to from) boxes (λ box. hides_back box from to)

-- it is the same both ways
pub hidden_comm : (boxes : List BoxSpec) (from to : List ℤ) → hidden boxes from to ≡ hidden boxes to from
hidden_comm boxes from to =
    let there = hidden_decides boxes from to in
    let back = hidden_decides boxes to from in
    one_answer (hidden boxes from to) (hidden boxes to from) there ((λ h. hidden_back boxes to from (back.0 h)), (λ h. back.1 (hidden_back boxes from to h)))

pub hidden-nil : (from to : List ℤ) → hidden [] from to ≡ false
unfolding hidden
hidden-nil from to = refl
