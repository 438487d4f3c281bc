use Rattle.compliance.specs.Exact.{exact_average, exact_uniformity}
use Rattle.room_facts.specs.Truth.{EncloseLight}
use Rattle.room_facts.proofs.Truths.{light_enclosed, value_true}
use Rattle.room_facts.proofs.points.judge_check.Goals as goal

pub returns-clause-true_check : goal.returns-clause-true_check
returns-clause-true_check c =
    let l = c.args.lit_room.now in
    let grid = c.args.grid.now in
    let points = c.in_ok-points.points.items in
    let bounds = c.args.bounds.now in
    let many = c.in_ok-points.ensures.many in
    let light : EncloseLight l grid points = light_enclosed l grid bounds points c.requires.enclose c.in_ok-points.ensures.enclose in
    rw (← c.requires.grid) (record {
      light = light;
      average = value_true l grid bounds points _ (exact_average c.args.check.now.maintenance) _ _ many light (rw c.deref.ensures.value at c.judge-judged.ensures.average_judged);
      uniformity = value_true l grid bounds points _ exact_uniformity _ _ many light (rw c.deref.ensures.value at c.judge-judged.ensures.uniformity_judged);
    })
