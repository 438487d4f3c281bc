use Rattle.lux_plans.proofs.Steps.{stands_at, takes_one_more, takes_next_refused}
use Rattle.lux_top.specs.ProjectFiles.{web_file}
use Rattle.lux_top.proofs.project_files.read_webs.Goals as goal

pub returns-in-Err : goal.returns-in-Err
returns-in-Err g c =
    takes_next_refused web_file _ c.loop-name.name-index _ _ _ _ c.loop-name.webs.items c.in-Err.answer c.loop-name.invariant.same
    (stands_at _ _ _ c.loop-name-test.true c.name-item.is) c.loop-name.invariant.given c.in-Err.ensures

pub loop-name-preserved : goal.loop-name-preserved
loop-name-preserved g c =
    let more = takes_one_more web_file _ c.loop-name.name-index _ _ _ _ c.loop-name.webs.items _ c.loop-name.invariant.same
    (stands_at _ _ _ c.loop-name-test.true c.name-item.is) c.loop-name.invariant.given c.in-Ok.ensures in
    record {
      same = more.0;
      given = rw c.in_ok-push.ensures.items more.1;
    }
