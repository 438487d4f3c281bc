use Rattle.workload.proofs.Accepted.{one_file, one_web, accepted_room, accepted_fixtures}
use Rattle.workload.proofs.projects.project_of.Goals as goal

pub returns-clause-one_file : goal.returns-clause-one_file
returns-clause-one_file c = rw c.in_ok-project.ensures (one_file c.args.number)

pub returns-clause-one_web : goal.returns-clause-one_web
returns-clause-one_web c = rw c.in_ok-project.ensures (one_web c.args.number)

pub returns-clause-accepted_room : goal.returns-clause-accepted_room
returns-clause-accepted_room c = rw c.in_ok-project.ensures (accepted_room c.args.number)

pub returns-clause-accepted_fixtures : goal.returns-clause-accepted_fixtures
returns-clause-accepted_fixtures c = rw c.in_ok-project.ensures (accepted_fixtures c.args.number)
