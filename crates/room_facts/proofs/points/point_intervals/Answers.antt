use Rattle.std.proofs.Common.{◌≡◌, ℕ, ◌<◌, ◌≤◌, ◌^◌, ◌∙◌, ◌++◌, ◌∷◌, [], length, map, ap, sym, subst, inl, inr, arith, List}
use Rattle.std.specs.List.{range_with_len}
use Rattle.std.proofs.lemmas.Bool.{cases_lt}
use Rattle.std.proofs.lemmas.List.Elements.{All-push}
use Rattle.grids.specs.Grids.{count}
use Rattle.grids.specs.GridPoint.{light_between, EnclosesLight}
use Rattle.project_file.specs.Projects.{project_room}
use Rattle.room_facts.specs.RoomFacts.{direct_on}
use Rattle.room_facts.proofs.NumberedPoints.{more, how_many, at}
use Rattle.room_facts.proofs.Truths.{as_many, as_many_points}
use Rattle.room_facts.proofs.points.point_intervals.Goals as goal

pub point_interval-requires-clause-points : goal.point_interval-requires-clause-points
point_interval-requires-clause-points c =
    as_many_points c.args.lit_room.now c.args.grid.now _ (c.deref.ensures.value ∙ (rw (c.fixtures.ensures.value, c.webs.ensures.value) at c.in_ok-direct.ensures.direct))

pub point_interval-requires-clause-patches : goal.point_interval-requires-clause-patches
point_interval-requires-clause-patches c = c.requires.patches ∙ sym (as_many c.args.lit_room.now _ c.room.ensures)

pub loop-g-init : goal.loop-g-init
loop-g-init c =
    let none = c.in_ok-points.ensures.items in
    record { value = none; enclosed = λ i below. absurd (omega arith); ordered = rw none (λ k d inside. absurd (omega arith)); bounded = rw none (λ k d inside. absurd (omega arith)) }

pub loop-g-preserved : goal.loop-g-preserved
loop-g-preserved c =
    let grid = c.args.grid.now in
    let direct = direct_on c.args.lit_room.now grid in
    let bounds = c.args.bounds.now in
    let room = project_room c.args.lit_room.now.project in
    let light = light_between room grid direct bounds in
    let g = c.loop-g.g in
    let before = c.loop-g.invariant in
    let direct_is : c.deref.result.now ≡ direct = c.deref.ensures.value ∙ (rw (c.fixtures.ensures.value, c.webs.ensures.value) at c.in_ok-direct.ensures.direct) in
    let here : c.point_interval.result ≡ light g = rw (c.room.ensures, direct_is) at c.point_interval.ensures.value in
    let encloses : EnclosesLight room grid direct bounds g (light g) = rw (c.room.ensures, direct_is, here) at c.point_interval.ensures.encloses in
    let pushed = c.in_ok-push.ensures.items in
    record {
      value = pushed ∙ ((λ k. before.value k ++ here k ∷ []) ∙ sym (more light g));
      enclosed = λ i below. elim (cases_lt i g) [
        | inl earlier ↦ before.enclosed i earlier
        | inr last ↦ let same : i ≡ g = omega arith in subst (λ (n : ℕ). EnclosesLight room grid direct bounds n (light n)) (sym same) encloses
      ];
      ordered = rw pushed (All-push (λ (ends : ℕ × ℕ). ends.0 ≤ ends.1) _ _ before.ordered c.point_interval.ensures.order);
      bounded = rw pushed (All-push (λ (ends : ℕ × ℕ). ends.1 ≤ 10 ^ 30) _ _ before.bounded (let low = c.point_interval.ensures.limited in omega arith));
    }

pub returns-clause-many : goal.returns-clause-many
returns-clause-many c =
    let all : c.loop-g.g ≡ count c.args.grid.now = omega (arith, c.len-g-end.ensures.value) in
    ap length c.loop-g.invariant.value ∙ (how_many _ c.loop-g.g ∙ all)

pub returns-clause-value : goal.returns-clause-value
returns-clause-value c =
    let all : c.loop-g.g ≡ count c.args.grid.now = omega (arith, c.len-g-end.ensures.value) in
    rw all at c.loop-g.invariant.value

pub returns-clause-intervals : goal.returns-clause-intervals
returns-clause-intervals c =
    let many : length c.loop-g.points.items ≡ c.loop-g.g = ap length c.loop-g.invariant.value ∙ how_many _ c.loop-g.g in
    let some = c.len-g-end.ensures.some in
    let few = c.len-g-end.ensures.few in
    record { some = omega (arith, many); few = omega (arith, many); ordered = c.loop-g.invariant.ordered; bounded = c.loop-g.invariant.bounded }

pub returns-clause-enclose : goal.returns-clause-enclose
returns-clause-enclose c = λ g inside.
    let grid = c.args.grid.now in
    let light = light_between (project_room c.args.lit_room.now.project) grid (direct_on c.args.lit_room.now grid) c.args.bounds.now in
    let below : g < c.loop-g.g = omega (arith, c.len-g-end.ensures.value) in
    let is = c.loop-g.invariant.value in
    rw (is, at light c.loop-g.g g below) (c.loop-g.invariant.enclosed g below)
