use Rattle.std.proofs.Common.{arith, rules}
use Rattle.flux_accounts.proofs.Steps.{hires}
use Rattle.flux_accounts.proofs.banks.Bank.hire.Goals as goal

pub split_seat-pass-requires : goal.split_seat-pass-requires
split_seat-pass-requires c =
    let words = c.self.invariant.words in
    (search rules, omega arith, hires _ _ _ c.desk.inside.pass.me.0 c.desk.invariant.0.desk)
