-- The seats that a bank starts with are its seats.
use Rattle.std.proofs.Common.{◌≡◌, ℕ, List, All, map, refl, sym, subst}
use Rattle.std.specs.List.{range_with_len}
use Rattle.std.proofs.lemmas.List.Elements.{All-map}
use Rattle.flux_accounts.specs.Banks.{BankFacts, SeatFacts, IsSeatOf, seat_at_start}

pub hired_seats : (bank : BankFacts) (seats : ℕ) (all : List SeatFacts) → all ≡ map (seat_at_start bank) (range_with_len 0 seats) → All (IsSeatOf bank) all
hired_seats bank seats all are =
    subst (All (IsSeatOf bank)) (sym are) (All-map (IsSeatOf bank) (seat_at_start bank) (range_with_len 0 seats) (λ k d inside. record { table = refl; system = refl }))
