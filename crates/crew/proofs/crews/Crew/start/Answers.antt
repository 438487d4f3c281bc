use Rattle.std.proofs.Common.{◌≡◌, length, rules, arith, sym, ◌∙◌}
use Rattle.std.specs.List.{range_with_len}
use Rattle.crew.proofs.Hired.{as_many_shooters, seats_at_start}
use Rattle.crew.proofs.crews.Crew.start.Goals as goal

pub invariant_of-result : goal.invariant_of-result
invariant_of-result g c =
    let bank = c.in_ok-bank.bank in
    let number = length c.args.pickers.items in
    let members = c.in_ok-members.members.items in
    let many : length members ≡ number = as_many_shooters (λ m. record { seat = m.shooter.seat; remembered = m.shooter.remembered; cursor = m.shooter.cursor }) bank number members c.in_ok-members.ensures in
    let count : c.len-number.result ≡ number = search rules in
    let asked : length members ≡ c.len-number.result = many ∙ sym count in
    record {
      opened = rw asked c.in_ok-bank.ensures.desk;
      of_bank = seats_at_start (λ m. record { seat = m.shooter.seat; remembered = m.shooter.remembered; cursor = m.shooter.cursor }) bank (range_with_len 0 number) members c.in_ok-members.ensures;
      some = let asked = c.requires.some in omega arith;
      few = let asked = c.requires.few in omega arith;
      lengths = let made : length c.in_ok-reports.reports.items ≡ c.len-number.result = search rules in made ∙ sym asked;
      flux = rw c.in_ok-bank.ensures.bank.1 c.requires.flux;
    }

pub returns-clause-number : goal.returns-clause-number
returns-clause-number g c = as_many_shooters (λ m. record { seat = m.shooter.seat; remembered = m.shooter.remembered; cursor = m.shooter.cursor }) c.in_ok-bank.bank (length c.args.pickers.items) c.in_ok-members.members.items c.in_ok-members.ensures
