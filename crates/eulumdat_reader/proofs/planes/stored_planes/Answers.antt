use Rattle.std.proofs.Common.{◌≡◌, ◌∙◌, ℕ, ◌+◌, ◌-◌, ◌/◌, ◌%◌, ◌≤◌, List, ◌++◌, length, map, take, drop, reverse, true, sym, ap, subst}
use Rattle.std.specs.List.Sorted.{IsStrictlyIncreasing}
use Rattle.photo_web.specs.declared.photometry.SymKind.{SymKind}
use Rattle.photo_web.specs.declared.photometry.SymKind.TheVariants.{Plane90}
use Rattle.symmetry.specs.Images.{has_span}
use Rattle.eulumdat_reader.specs.Planes.{turned_angle, divisor, unread_gap, is_span}
use Rattle.eulumdat_reader.proofs.Turning.{IsAbout90, about_of, planes, rises, spans_half}
use Rattle.eulumdat_reader.proofs.planes.stored_planes.Goals as goal

-- the angles of planes about 90 degrees, whose symmetry is another name of Plane90
about : (kind : SymKind) (n : ℕ) (a : List ℕ) → kind ≡ Plane90 → 1 ≤ n → n % divisor kind ≡ 0 → length a + ((unread_gap kind n).to - (unread_gap kind n).from) ≡ n → is_span kind n a ≡ true → IsAbout90 a (n / 4)
about kind n a is some whole len span = about_of n a some (rw is at whole) (rw is at len) (rw is at span)

-- the turned planes of some angles, of which so many are in front
abbrev turned_behind : ℕ → List ℕ → List ℕ
turned_behind front a = map turned_angle (reverse (take front a) ++ reverse (drop front a))

-- what holds of the turned planes
module _ (kind : SymKind) (n : ℕ) (a : List ℕ) (is : kind ≡ Plane90) (up : IsStrictlyIncreasing a) (known : IsAbout90 a (n / 4)) where
  have_span : has_span kind (planes a (n / 4) up known) ≡ true
  have_span = subst (λ (k : SymKind). has_span k (planes a (n / 4) up known) ≡ true) (sym is) (spans_half a (n / 4) up known)

pub returns-in_ok-turned-in-Plane90-clause-rising : goal.returns-in_ok-turned-in-Plane90-clause-rising
returns-in_ok-turned-in-Plane90-clause-rising c =
    let known = about c.args.sym c.args.count c.args.angles.items c.in-Plane90.is c.requires.some c.requires.whole c.requires.len c.requires.span in
    let front = ap (turned_behind (c.args.count / 4 + 1)) c.deref.ensures.value in
    let e = c.in_ok-turned-in-Plane90.ensures in
    subst IsStrictlyIncreasing (sym (e ∙ front)) (rises c.args.angles.items (c.args.count / 4) c.requires.rising known)

pub returns-in_ok-turned-in-Plane90-clause-span : goal.returns-in_ok-turned-in-Plane90-clause-span
returns-in_ok-turned-in-Plane90-clause-span c =
    let known = about c.args.sym c.args.count c.args.angles.items c.in-Plane90.is c.requires.some c.requires.whole c.requires.len c.requires.span in
    let front = ap (turned_behind (c.args.count / 4 + 1)) c.deref.ensures.value in
    let e = c.in_ok-turned-in-Plane90.ensures in
    ap (has_span c.args.sym) (e ∙ front) ∙ have_span c.args.sym c.args.count c.args.angles.items c.in-Plane90.is c.requires.rising known
