use Rattle.std.proofs.Common.{◌≡◌, ℕ, ◌<◌, ◌++◌, ◌∷◌, [], Some, List, Vec, length, map, take, get_or, ap, sym, refl, subst, inl, inr, ◌∙◌, arith}
use Rattle.std.specs.Prelude.{All, slice_get}
use Rattle.std.specs.declared.alloc.Global.{Global}
use Rattle.std.proofs.lemmas.Bool.{cases_lt}
use Rattle.std.proofs.lemmas.List.{map-append, map_more, take_all, length-map, get_or-map}
use Rattle.std.proofs.lemmas.Option.{slice_get-get_or}
use Rattle.compliance.specs.declared.checks.CheckSpec.{CheckSpec}
use Rattle.compliance.specs.declared.judging.Judged.{Judged}
use Rattle.enclosure.specs.Interval.{intervals_of, interval_of}
use Rattle.flux_system.specs.System.{patches}
use Rattle.grids.specs.declared.spec.GridSpec.{GridSpec}
use Rattle.grids.specs.Grids.{grid_of}
use Rattle.lit_room.specs.LitRooms.{system_of}
use Rattle.lux_report.specs.Facts.{Facts, lists_of}
use Rattle.room_facts.specs.RoomFacts.{check_intervals, answer_by, answers_of, facts_of}
use Rattle.room_facts.proofs.NumberedPoints.{how_many}
use Rattle.room_facts.proofs.Truths.{IsTrueBy, flux_enclosed, checks_true}
use Rattle.room_facts.proofs.facts.find_facts.Goals as goal

pub judge_check-requires-clause-patches : goal.judge_check-requires-clause-patches
judge_check-requires-clause-patches c =
    ap length (c.deref.ensures.value ∙ (rw c.system.ensures at c.in_ok-bounds.ensures.value)) ∙ how_many (interval_of (system_of c.args.lit_room.now) c.args.ledger.now) (patches (system_of c.args.lit_room.now))

pub judge_check-requires-clause-enclose : goal.judge_check-requires-clause-enclose
judge_check-requires-clause-enclose c =
    flux_enclosed c.args.lit_room.now c.args.ledger.now c.deref.result.now (c.deref.ensures.value ∙ (rw c.system.ensures at c.in_ok-bounds.ensures.value)) c.requires.flux (rw c.system.ensures at c.in_ok-bounds.ensures.encloses)

pub loop-i-init : goal.loop-i-init
loop-i-init c = record { points = ap lists_of c.in_ok-points.ensures.items; judged = c.in_ok-judged.ensures.items; hold = λ k check is below. absurd (omega arith) }

pub loop-i-preserved : goal.loop-i-preserved
loop-i-preserved c =
    let l = c.args.lit_room.now in
    let ledger = c.args.ledger.now in
    let checks = c.checks-checks.result.now in
    let i = c.loop-i.i in
    let check = c.index-checks-i.result in
    let before = c.loop-i.invariant in
    let intervals = check_intervals l ledger in
    let answer : CheckSpec → Judged = λ checked. answer_by checked (intervals checked) in
    let here : slice_get checks i ≡ Some check = rw (← c.index-checks-i.is) at (slice_get-get_or checks i check c.loop-i-test.true) in
    let grids_are : c.grids-grids.result.now ≡ map (grid_of l.project.room) checks = c.grids-grids.ensures ∙ ap (map (grid_of l.project.room)) (sym (rw c.project.ensures at c.checks-checks.ensures.value)) in
    let grid_is : c.index-grids-i.result ≡ grid_of l.project.room check =
    rw (← c.index-checks-i.is) at (c.index-grids-i.is ∙ (ap (λ (gs : List GridSpec). get_or gs i c.index-grids-i.result) grids_are ∙ get_or-map (grid_of l.project.room) checks i check c.index-grids-i.result c.loop-i-test.true)) in
    let bounds_is : c.deref.result.now ≡ intervals_of (system_of l) ledger = c.deref.ensures.value ∙ (rw c.system.ensures at c.in_ok-bounds.ensures.value) in
    let light_is : c.in_ok-light.light.items ≡ intervals check = rw (bounds_is, grid_is) at c.in_ok-light.ensures.points in
    let answer_is : c.in_ok-light.answer ≡ answer check = rw light_is at c.in_ok-light.ensures.judged in
    let true_check : IsTrueBy l ledger check = rw (light_is, answer_is) at c.in_ok-light.ensures.true_check in
    record {
      points = ap lists_of c.in_ok-push.ensures.items
          ∙ (map-append (λ (vector : Vec (ℕ × ℕ) Global). vector.items) _ _ ∙ ((λ k. before.points k ++ light_is k ∷ []) ∙ sym (rw (← c.index-checks-i.is) at (map_more intervals checks i check c.loop-i-test.true))));
      judged = c.in_ok-push-2.ensures.items ∙ ((λ k. before.judged k ++ answer_is k ∷ []) ∙ sym (rw (← c.index-checks-i.is) at (map_more answer checks i check c.loop-i-test.true)));
      hold = λ k checked is below. elim (cases_lt k i) [
        | inl earlier ↦ before.hold k checked is earlier
        | inr last ↦
            let same : k ≡ i = omega arith in
            let at_i : slice_get checks i ≡ Some checked = rw same at is in
            let found : check ≡ checked = cc in
            rw (← found) true_check
      ];
    }

pub returns-clause-facts : goal.returns-clause-facts
returns-clause-facts c =
    let l = c.args.lit_room.now in
    let ledger = c.args.ledger.now in
    let checks = c.checks-checks.result.now in
    let all : c.loop-i.i ≡ length checks = omega arith in
    let checks_are : checks ≡ l.project.checks = rw c.project.ensures at c.checks-checks.ensures.value in
    let front : take c.loop-i.i checks ≡ l.project.checks = rw all (take_all (length checks) checks (omega arith) ∙ checks_are) in
    rw (c.new.ensures, rw c.system.ensures at c.in_ok-bounds.ensures.value, c.loop-i.invariant.points, c.loop-i.invariant.judged, front) refl

pub returns-clause-whole : goal.returns-clause-whole
returns-clause-whole c =
    let l = c.args.lit_room.now in
    let lengths = c.requires.done.balanced.lengths in
    rw (returns-clause-facts c) (record {
      patches = record {
        lists = rw lengths.of_direct lengths;
        bounds = how_many (interval_of (system_of l) c.args.ledger.now) (patches (system_of l)) ∙ sym lengths.of_direct;
      };
      checks = record { points = length-map l.project.checks _; judged = length-map l.project.checks _ };
    })

pub returns-clause-true_facts : goal.returns-clause-true_facts
returns-clause-true_facts c =
    let l = c.args.lit_room.now in
    let ledger = c.args.ledger.now in
    let checks = c.checks-checks.result.now in
    let all : c.loop-i.i ≡ length checks = omega arith in
    let checks_are : checks ≡ l.project.checks = rw c.project.ensures at c.checks-checks.ensures.value in
    let hold : All (IsTrueBy l ledger) checks = λ k d inside. c.loop-i.invariant.hold k _ (slice_get-get_or checks k d inside) (omega arith) in
    rw (returns-clause-facts c) (record {
      patches = flux_enclosed l ledger _ refl c.requires.flux (rw c.system.ensures at c.in_ok-bounds.ensures.encloses);
      checks = checks_true l c.args.shooters ledger (rw checks_are at hold);
    })
