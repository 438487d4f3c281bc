use Rattle.std.proofs.Common.{◌≡◌, ℕ, ◌+◌, ◌<◌, set, [], sym, ap, subst, ◌∙◌, arith, rules}
use Rattle.flux_system.specs.System.{patches}
use Rattle.shot_core.specs.Views.{after_take}
use Rattle.flux_accounts.specs.Plays.{Seated, IsBounded}
use Rattle.flux_accounts.specs.Layouts.{SeatLayout}
use Rattle.flux_accounts.proofs.Memory.{exchange_won, take_fits, book_fits, won_layout}
use Rattle.flux_accounts.proofs.banks.Bank.take_seen.Goals as goal

pub overflow_add-taken : goal.overflow_add-taken
overflow_add-taken c =
    let i = c.seat.inside in
    let v = i.pass.me.0.account in
    let inside : c.args.patch < patches v.system = search rules in
    let won = exchange_won i.pass.me.0 c.args.patch c.args.seen c.exchange-found.result c.if-found-seen.false in
    let bounds : IsBounded (after_take v c.args.patch c.args.seen) = subst (λ (m : Seated). IsBounded m.0.account) (c.exchange-found.ensures.step ∙ (λ k. (won k, i.pass.me.1))) c.exchange-found.ensures.bounds in
    let fits = take_fits i.taken v c.args.patch c.args.seen c.seat.invariant.0.taken c.seat.invariant.0.shape.of_taken inside bounds in
    let have = c.get.ensures in
    omega arith

pub book-requires-clause-fits : goal.book-requires-clause-fits
book-requires-clause-fits c =
    let i = c.seat.inside in
    let v = i.pass.me.0.account in
    let same : c.args.system.now ≡ v.system = search rules in
    let won = exchange_won i.pass.me.0 c.args.patch c.args.seen c.exchange-found.result c.if-found-seen.false in
    let bounds : IsBounded (after_take v c.args.patch c.args.seen) = subst (λ (m : Seated). IsBounded m.0.account) (c.exchange-found.ensures.step ∙ (λ k. (won k, i.pass.me.1))) c.exchange-found.ensures.bounds in
    book_fits c.args.system.now i.hand v c.args.patch c.args.seen same c.seat.invariant.0.amounts c.seat.invariant.0.fractions bounds

pub invariant_of-seat-2 : goal.invariant_of-seat-2
invariant_of-seat-2 c =
    let i = c.seat.inside in
    let v = i.pass.me.0.account in
    let same : c.args.system.now ≡ v.system = search rules in
    let won = exchange_won i.pass.me.0 c.args.patch c.args.seen c.exchange-found.result c.if-found-seen.false in
    let is = c.exchange-found.ensures.step ∙ (λ k. (won k, i.pass.me.1)) in
    let bounds : IsBounded (after_take v c.args.patch c.args.seen) = subst (λ (m : Seated). IsBounded m.0.account) is c.exchange-found.ensures.bounds in
    let taken = c.set.ensures ∙ ap (λ (x : ℕ). set i.taken c.args.patch (x + c.args.seen)) c.get.ensures in
    let layout = won_layout c.args.system.now i.hand c.book.new.self i.taken c.set.new.self i.wins v c.args.patch c.args.seen c.seat.invariant.0 same c.book.ensures.amounts c.book.ensures.fractions taken bounds in
    subst (λ (m : Seated). SeatLayout c.book.new.self c.set.new.self (i.wins + 1) m.0.account × (m.1 ≡ [])) (sym is) (layout, c.seat.invariant.1)
