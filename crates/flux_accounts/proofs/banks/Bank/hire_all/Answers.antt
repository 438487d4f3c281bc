use Rattle.std.proofs.Common.{◌≡◌, ℕ, [], ◌∷◌, ◌++◌, sym, ap, ◌∙◌, arith, rules}
use Rattle.std.proofs.lemmas.List.FromFn.{map-range_with_len_more}
use Rattle.flux_accounts.specs.Histories.{after_hiring, newcomer}
use Rattle.flux_accounts.specs.Banks.{DeskFacts, seat_at_start}
use Rattle.flux_accounts.proofs.banks.Bank.hire_all.Goals as goal

pub loop-number-preserved : goal.loop-number-preserved
loop-number-preserved c =
    let bank = c.args.self.now in
    let i = c.loop-number.invariant in
    let k : ℕ = c.loop-number.number in
    let pushed : c.push.new.self.items ≡ c.loop-number.all.items ++ c.hire-seat.result ∷ [] = search rules in
    let seat : c.hire-seat.result ≡ seat_at_start bank k = c.hire-seat.ensures.seat ∙ ap (λ (d : DeskFacts). record { table = d.table; number = k; history = newcomer d.history }) i.desk in
    record {
      desk = c.hire-seat.ensures.desk ∙ ap (λ (d : DeskFacts). record d { history = after_hiring d.history }) i.desk;
      seats = pushed ∙ ((λ q. i.seats q ++ seat q ∷ []) ∙ sym (map-range_with_len_more (seat_at_start bank) 0 k k (omega arith)));
    }
