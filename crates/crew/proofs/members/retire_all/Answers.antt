use Rattle.std.proofs.Common.{◌≡◌, ◌<◌, ◌∷◌, length, rules, arith, ap, sym, subst}
use Rattle.std.specs.Vec.Iter.{into_iter_items}
use Rattle.std.proofs.lemmas.List.Elements.{All-tail}
use Rattle.std.proofs.lemmas.List.Sums.{sum_by-cons}
use Rattle.flux_system.specs.System.{FluxSystem, patches}
use Rattle.shot_core.specs.declared.views.View.{View}
use Rattle.shot_core.specs.Views.{after_retire, taken_at}
use Rattle.flux_accounts.specs.Banks.{DeskFacts, IsSeatOf}
use Rattle.crew.proofs.Sums.{taken_after_retire}
use Rattle.crew.proofs.members.retire_all.Goals as goal

pub loop-member-preserved : goal.loop-member-preserved
loop-member-preserved g c =
    let member = c.in-Some.member in
    let rest = into_iter_items c.next.new.self in
    let desk : View = c.loop-member.desk.history.account in
    let after : View = c.retire.new.desk.history.account in
    let seat : View = member.shooter.seat.history.account in
    let before = c.loop-member.invariant in
    let items : into_iter_items c.loop-member.member-iterator ≡ member ∷ rest = search rules in
    let retired = ap {B = View} (λ (d : DeskFacts). d.history.account) c.retire.ensures.step in
    let step : after ≡ after_retire desk seat = rw c.give_up.ensures.seat at retired in
    let one : seat.parts ≡ 1 = search rules in
    let out : desk.out ≡ length (member ∷ rest) = rw items at before.out in
    let out_after = ap (λ (v : View). v.out) step in
    let parts_after = ap (λ (v : View). v.parts) step in
    let parts = rw items at before.parts in
    let wins_after = ap (λ (v : View). v.wins) step in
    let wins = rw items at before.wins in
    let won = sum_by-cons (λ m. m.shooter.seat.history.account.wins) member rest in
    record {
      desk = c.retire.ensures.of;
      rest = All-tail (λ m. IsSeatOf c.args.bank.now m.shooter.seat) member rest (rw items at before.rest);
      out = omega arith;
      parts = omega arith;
      wins = omega arith;
      taken = λ j inside.
          let in_desk : j < patches desk.system = subst (λ (s : FluxSystem). j < patches s) (sym before.desk.system) inside in
          let here = ap (taken_at j) step in
          let sum = taken_after_retire desk seat j in_desk in
          let took = sum_by-cons (λ m. taken_at j m.shooter.seat.history.account) member rest in
          let was = (rw items at before.taken) j inside in
          omega arith;
    }
