-- What is said of each shooter by its place is said of all of them in order.
use Rattle.std.proofs.Common.{◌≡◌, ℕ, suc, ◌<◌, ◌++◌, List, [], ◌∷◌, length, map, take, drop, slice_index_or, arith}
use Rattle.std.proofs.lemmas.List.{append-nil, drop_all, take_all}
use Rattle.flux_system.specs.System.{FluxSystem}
use Rattle.shooter.specs.declared.reports.PassReport.{PassReport}
use Rattle.shooter.specs.Shooters.{ShooterFacts, AreRounds}
use Rattle.crew.specs.Crews.{HaveGoneRounds}

pub rounds_in_order : {A : Type 0} (s : FluxSystem) (facts : A → ShooterFacts) (report : A → PassReport) (olds news : List A) → length news ≡ length olds
    → ((k : ℕ) (d : A) → k < length olds → AreRounds s (facts (slice_index_or olds k d)) (report (slice_index_or news k d)) (facts (slice_index_or news k d)))
    → HaveGoneRounds s (map facts olds) (map report news) (map facts news)
rounds_in_order s facts report [] [] same each = tt
rounds_in_order s facts report [] (new ∷ news) same each = absurd (omega arith)
rounds_in_order s facts report (old ∷ olds) [] same each = absurd (omega arith)
rounds_in_order s facts report (old ∷ olds) (new ∷ news) same each = (
  each 0 old (omega arith),
  rounds_in_order s facts report olds news (omega arith) (λ k d inside. each (suc k) d (omega arith)),
)

-- a whole list that is written over another of its length
pub written_over : {A : Type 0} (n : ℕ) (xs ys : List A) → length xs ≡ n → length ys ≡ n → take n (xs ++ drop (length xs) ys) ≡ xs
written_over n xs ys long same = rw (drop_all (length xs) ys (omega arith), append-nil xs) (take_all n xs (omega arith))
