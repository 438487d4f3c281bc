use Rattle.std.proofs.Common.{◌≡◌, ℕ, ◌+◌, ◌-◌, ◌<◌, [], length, sym, ap, subst, ◌∙◌, arith, rules}
use Rattle.flux_system.specs.System.{patches}
use Rattle.shot_core.specs.Hands.{Holdings}
use Rattle.shot_core.specs.Shapes.{AreSmall}
use Rattle.shot_core.specs.Views.{both, hand_at}
use Rattle.flux_accounts.specs.Banks.{HasEmptyHand}
use Rattle.flux_accounts.specs.Plays.{Seated}
use Rattle.flux_accounts.specs.Layouts.{DeskLayout}
use Rattle.flux_accounts.proofs.Steps.{retires}
use Rattle.flux_accounts.proofs.Memory.{retired_layout}
use Rattle.flux_accounts.proofs.banks.Bank.retire.Goals as goal

pub join_seat-requires : goal.join_seat-requires
join_seat-requires c =
    let words = c.self.invariant.words in
    let u = c.seat.inside.pass.me.0.account in
    let empty : (j : ℕ) → j < patches u.system → hand_at j u ≡ 0 = subst HasEmptyHand (sym c.seat.view_is) c.requires.empty in
    (search rules, search rules, c.seat.invariant.1, omega arith, retires _ _ _ c.desk.inside.pass.me.0 _ c.seat.inside.pass.me.0 c.desk.invariant.0.desk c.seat.invariant.0.actor empty)

pub invariant_of-desk : goal.invariant_of-desk
invariant_of-desk c =
    let d = c.desk.inside in
    let s = c.seat.inside in
    let v = d.pass.me.0.account in
    let desk = c.desk.invariant.0 in
    let seat = c.seat.invariant.0 in
    let same : s.pass.me.0.account.system ≡ v.system = search rules in
    let out : 0 < v.out = search rules in
    let small : AreSmall s.hand.fractions = subst AreSmall (ap (λ (h : Holdings). h.fractions) (c.hand.view_is ∙ c.into_hand-hand.ensures)) c.hand.invariant.1 in
    let taken = c.add_amounts.ensures v.system (sym (ap length desk.taken ∙ desk.shape.of_taken)) ∙ ap (both v.system d.taken) c.as_slice.ensures in
    let err = c.add_amounts-2.ensures v.system (sym (ap length desk.err ∙ desk.shape.of_err)) ∙ ap (both v.system d.err) (c.fractions.ensures ∙ ap (λ (h : Holdings). h.fractions) c.into_hand-hand.ensures) in
    let layout = retired_layout d.taken d.err d.parts d.wins d.out v desk s.hand s.taken s.wins s.pass.me.0.account seat same out small _ _ taken err in
    subst (λ (m : Seated). DeskLayout c.add_amounts.new.sums c.add_amounts-2.new.sums (d.parts + 1) (d.wins + s.wins) (d.out - 1) m.0.account × (m.1 ≡ [])) (sym c.join_seat.ensures.2) (layout, c.desk.invariant.1)
