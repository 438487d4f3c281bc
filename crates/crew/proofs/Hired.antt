-- The seats that a bank starts with become shooters, one after another.
use Rattle.std.proofs.Common.{◌≡◌, ℕ, ◌%◌, List, [], ◌∷◌, ◌++◌, All, map, length, replicate, refl, ap, sym, subst, ◌∙◌}
use Rattle.std.specs.List.{range_with_len}
use Rattle.std.proofs.lemmas.List.Elements.{All-map, All-nil, All-cons, All-head, All-tail}
use Rattle.std.proofs.lemmas.List.{length-map}
use Rattle.std.proofs.lemmas.List.FromFn.{length-range_with_len}
use Rattle.flux_system.specs.System.{patches}
use Rattle.flux_accounts.specs.Banks.{BankFacts, SeatFacts, IsSeatOf, seat_at_start}
use Rattle.shooter.specs.Shooters.{ShooterFacts}
use Rattle.shot_core.specs.Views.{hand_at}
use Rattle.crew.proofs.Sums.{nothing_at}
use Rattle.crew.specs.Crews.{shooter_at_start}

-- the shooter that a seat becomes
abbrev pub new_shooter : BankFacts → SeatFacts → ShooterFacts
new_shooter bank seat = record {
  seat = seat;
  remembered = replicate (patches bank.system) 0;
  cursor = seat.number % patches bank.system;
}

-- nothing was done with the seat yet
abbrev pub IsUnused : BankFacts → SeatFacts → Type 0
IsUnused bank seat = seat ≡ seat_at_start bank seat.number

pub unused_seats : (bank : BankFacts) (numbers : List ℕ) → All (IsUnused bank) (map (seat_at_start bank) numbers)
unused_seats bank numbers = All-map (IsUnused bank) (seat_at_start bank) numbers (λ k d inside. refl)

pub new_shooters : (bank : BankFacts) (numbers : List ℕ) → map (new_shooter bank) (map (seat_at_start bank) numbers) ≡ map (shooter_at_start bank) numbers
new_shooters bank [] = refl
new_shooters bank (number ∷ numbers) = ap (λ (shooters : List ShooterFacts). shooter_at_start bank number ∷ shooters) (new_shooters bank numbers)

-- the first of some seats with which nothing was done
pub first_unused : (bank : BankFacts) (seat : SeatFacts) (rest all : List SeatFacts) → all ≡ seat ∷ rest → All (IsUnused bank) all → IsUnused bank seat
first_unused bank seat rest all are unused = All-head (IsUnused bank) seat rest (subst (All (IsUnused bank)) are unused)

pub unused_hand : (bank : BankFacts) (seat : SeatFacts) → IsUnused bank seat → (j : ℕ) → hand_at j seat.history.account ≡ 0
unused_hand bank seat unused j = ap (λ (s : SeatFacts). hand_at j s.history.account) unused ∙ nothing_at (patches bank.system) j

-- one seat more is a shooter's
pub one_more : {A : Type 0} (facts : A → ShooterFacts) (over : SeatFacts → ShooterFacts) (all : List A) (member : A) (seat : SeatFacts) (rest : List SeatFacts) → facts member ≡ over seat → map facts (all ++ member ∷ []) ++ map over rest ≡ map facts all ++ map over (seat ∷ rest)
one_more facts over [] member seat rest is = ap (λ (shooter : ShooterFacts). shooter ∷ map over rest) is
one_more facts over (first ∷ all) member seat rest is = ap (λ (shooters : List ShooterFacts). facts first ∷ shooters) (one_more facts over all member seat rest is)

pub as_many_shooters : {A : Type 0} (facts : A → ShooterFacts) (bank : BankFacts) (number : ℕ) (all : List A) → map facts all ≡ map (shooter_at_start bank) (range_with_len 0 number) → length all ≡ number
as_many_shooters facts bank number all are =
    sym (length-map all facts) ∙ ap (λ (shooters : List ShooterFacts). length shooters) are ∙ length-map (range_with_len 0 number) (shooter_at_start bank) ∙ length-range_with_len 0 number

-- the shooters of a crew that starts have seats of its bank
pub seats_at_start : {A : Type 0} (facts : A → ShooterFacts) (bank : BankFacts) (numbers : List ℕ) (all : List A) → map facts all ≡ map (shooter_at_start bank) numbers → All (λ member. IsSeatOf bank (facts member).seat) all
seats_at_start {A = A} facts bank numbers all are = from_map all (subst (All (λ shooter. IsSeatOf bank shooter.seat)) (sym are) (All-map (λ shooter. IsSeatOf bank shooter.seat) (shooter_at_start bank) numbers (λ k d inside. record { table = refl; system = refl })))
  where
    from_map : (xs : List A) → All (λ (shooter : ShooterFacts). IsSeatOf bank shooter.seat) (map facts xs) → All (λ member. IsSeatOf bank (facts member).seat) xs
    from_map [] h = All-nil (λ member. IsSeatOf bank (facts member).seat)
    from_map (x ∷ xs) h = All-cons (λ member. IsSeatOf bank (facts member).seat) x xs
        (All-head (λ (shooter : ShooterFacts). IsSeatOf bank shooter.seat) (facts x) (map facts xs) h)
        (from_map xs (All-tail (λ (shooter : ShooterFacts). IsSeatOf bank shooter.seat) (facts x) (map facts xs) h))
