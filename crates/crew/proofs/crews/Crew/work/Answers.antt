use Rattle.std.proofs.Common.{◌≡◌, length, rules}
use Rattle.crew.proofs.Rounds.{rounds_in_order, written_over}
use Rattle.crew.proofs.crews.Crew.work.Goals as goal

pub returns-clause-rounds : goal.returns-clause-rounds
returns-clause-rounds g c =
    let olds = c.args.self.now.members.items in
    let news = c.go_rounds.new.members in
    let given : c.as_mut_slice.result.now ≡ olds = search rules in
    let same : length news ≡ length olds = search rules in
    let members = written_over c.args.self.now.members.len news olds (search rules) (search rules) in
    let reports = written_over c.args.self.now.reports.len c.copy_reports.new.reports c.args.self.now.reports.items (search rules) (search rules) in
    let read : c.deref.result.now ≡ news = search rules in
    rw (members, reports, c.copy_reports.ensures, read) (
    rounds_in_order c.args.system.now (λ m. record { seat = m.shooter.seat; remembered = m.shooter.remembered; cursor = m.shooter.cursor }) (λ m. m.report) olds news same (rw given at c.go_rounds.ensures.rounds)
    )
