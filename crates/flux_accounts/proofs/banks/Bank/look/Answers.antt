use Rattle.std.proofs.Common.{◌≡◌, [], sym, ap, ◌∙◌, subst, refl, rules}
use Rattle.flux_accounts.specs.Plays.{Seated}
use Rattle.flux_accounts.specs.Layouts.{SeatLayout}
use Rattle.flux_accounts.proofs.Steps.{looks}
use Rattle.flux_accounts.proofs.banks.Bank.look.Goals as goal

pub load-requires : goal.load-requires
load-requires c = (search rules, search rules, looks _ _ _ _ _ c.args.patch)

pub invariant_of-seat : goal.invariant_of-seat
invariant_of-seat c =
    let i = c.seat.inside in
    subst (λ (m : Seated). SeatLayout i.hand i.taken i.wins m.0.account × (m.1 ≡ [])) (sym (c.load.ensures.2 c.args.patch refl)) c.seat.invariant

pub returns-clause-of : goal.returns-clause-of
returns-clause-of c =
    let same : c.seat.inside.pass.me.0.account.system ≡ c.args.self.now.system = search rules in
    record { table = search rules; system = ap (λ (m : Seated). m.0.account.system) (c.load.ensures.2 c.args.patch refl) ∙ same }
