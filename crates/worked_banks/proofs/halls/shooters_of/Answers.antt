use Rattle.std.proofs.Common.{◌≡◌, [], ◌∷◌, ◌++◌, All, rules, sym, subst}
use Rattle.std.specs.Vec.Iter.{into_iter_items}
use Rattle.std.proofs.lemmas.List.Elements.{All-push, All-tail}
use Rattle.flux_accounts.specs.Banks.{IsSeatOf}
use Rattle.worked_banks.specs.declared.shooters.Shooter.{Shooter}
use Rattle.worked_banks.proofs.halls.shooters_of.Goals as goal

pub loop-seat-preserved : goal.loop-seat-preserved
loop-seat-preserved c =
    let before = c.loop-seat.all.items in
    let seat = c.in-Some.seat in
    let shooter : Shooter = record { seat = seat; wins = 0; taken = 0 } in
    let after : c.push.new.self.items ≡ before ++ shooter ∷ [] = search rules in
    let items : into_iter_items c.loop-seat.seat-iterator ≡ seat ∷ into_iter_items c.next.new.self = search rules in
    let one : IsSeatOf c.args.bank.now seat = search rules in
    record {
      done = subst (All (λ (s : Shooter). IsSeatOf c.args.bank.now s.seat)) (sym after) (All-push (λ (s : Shooter). IsSeatOf c.args.bank.now s.seat) before shooter c.loop-seat.invariant.done one);
      rest = All-tail (IsSeatOf c.args.bank.now) seat (into_iter_items c.next.new.self) (subst (All (IsSeatOf c.args.bank.now)) items c.loop-seat.invariant.rest);
    }
