use Rattle.std.proofs.Common.{◌≡◌, ◌∷◌, [], ◌++◌, All, length, map, rules, sym, subst, ap, ◌∙◌, arith}
use Rattle.std.proofs.lemmas.List.{length-map}
use Rattle.std.proofs.lemmas.List.FromFn.{length-range_with_len}
use Rattle.std.specs.List.{range_with_len}
use Rattle.std.specs.Vec.Iter.{into_iter_items}
use Rattle.std.proofs.lemmas.List.Elements.{All-tail}
use Rattle.flux_accounts.specs.Banks.{SeatFacts, seat_at_start}
use Rattle.crew.specs.Crews.{no_rounds}
use Rattle.crew.proofs.Hired.{IsUnused, new_shooter, unused_seats, new_shooters, one_more, first_unused, unused_hand}
use Rattle.crew.proofs.members.members_of.Goals as goal

pub loop-seat-init : goal.loop-seat-init
loop-seat-init g c =
    let bank = c.args.bank.now in
    let numbers = range_with_len 0 (length c.args.pickers.items) in
    let seats : into_iter_items c.into_iter-seat-iterator.result.a ≡ c.args.seats.items = search rules in
    let pickers : into_iter_items c.into_iter-seat-iterator.result.b ≡ c.args.pickers.items = search rules in
    let given : into_iter_items c.into_iter-seat-iterator.result.a ≡ map (seat_at_start bank) numbers = seats ∙ c.requires.seats in
    let none : c.in_ok-all.all.items ≡ [] = search rules in
    record {
      all = rw (none, given) (new_shooters bank numbers);
      unused = subst (All (IsUnused bank)) (sym given) (unused_seats bank numbers);
      as_many = rw (given, pickers) (length-map numbers (seat_at_start bank) ∙ length-range_with_len 0 (length c.args.pickers.items));
    }

pub new-requires-clause-system : goal.new-requires-clause-system
new-requires-clause-system g c =
    let seat = c.in-Some.seat in
    let items : into_iter_items c.loop-seat.seat-iterator.a ≡ seat ∷ into_iter_items c.next.new.self.a = search rules in
    let first = first_unused c.args.bank.now seat (into_iter_items c.next.new.self.a) (into_iter_items c.loop-seat.seat-iterator.a) items c.loop-seat.invariant.unused in
    ap (λ (s : SeatFacts). s.history.account.system) first ∙ sym c.requires.system

pub new-requires-clause-empty : goal.new-requires-clause-empty
new-requires-clause-empty g c =
    let seat = c.in-Some.seat in
    let items : into_iter_items c.loop-seat.seat-iterator.a ≡ seat ∷ into_iter_items c.next.new.self.a = search rules in
    let first = first_unused c.args.bank.now seat (into_iter_items c.next.new.self.a) (into_iter_items c.loop-seat.seat-iterator.a) items c.loop-seat.invariant.unused in
    λ j inside. unused_hand c.args.bank.now seat first j

pub loop-seat-preserved : goal.loop-seat-preserved
loop-seat-preserved g c =
    let seat = c.in-Some.seat in
    let items : into_iter_items c.loop-seat.seat-iterator.a ≡ seat ∷ into_iter_items c.next.new.self.a = search rules in
    let others : into_iter_items c.loop-seat.seat-iterator.b ≡ c.in-Some.picker ∷ into_iter_items c.next.new.self.b = search rules in
    let bank = c.args.bank.now in
    let left = into_iter_items c.next.new.self.a in
    let all = c.loop-seat.all.items in
    let after : c.push.new.self.items ≡ all ++ record { shooter = c.in_ok-shooter.shooter; report = no_rounds } ∷ [] = search rules in
    let is : record { seat = c.in_ok-shooter.shooter.seat; remembered = c.in_ok-shooter.shooter.remembered; cursor = c.in_ok-shooter.shooter.cursor } ≡ new_shooter bank seat = search rules in
    record {
      all = rw after (
          one_more (λ m. record { seat = m.shooter.seat; remembered = m.shooter.remembered; cursor = m.shooter.cursor }) (new_shooter bank) all (record { shooter = c.in_ok-shooter.shooter; report = no_rounds }) seat left is
          ∙ rw items at c.loop-seat.invariant.all
          );
      unused = All-tail (IsUnused bank) seat left (rw items at c.loop-seat.invariant.unused);
      as_many = let lengths : length (seat ∷ left) ≡ length (c.in-Some.picker ∷ into_iter_items c.next.new.self.b) = rw (items, others) at c.loop-seat.invariant.as_many in omega arith;
    }
