-- Passes one after another.
use Rattle.std.proofs.Common.{◌≡◌, ◌⊎◌, ℕ, ◌+◌, ◌*◌, ◌<◌, ◌≤◌, List, [], ◌∷◌, ◌++◌, All, length, sum_by, refl, ap, subst, ◌∙◌, arith}
use Rattle.std.proofs.lemmas.List.{length_push}
use Rattle.std.proofs.lemmas.List.Elements.{All-nil, All-push}
use Rattle.std.proofs.lemmas.List.Sums.{sum_by_push}
use Rattle.flux_system.specs.System.{FluxSystem, patches}
use Rattle.shooter.specs.declared.reports.PassReport.{PassReport}
use Rattle.shooter.specs.Shooters.{ShooterFacts, IsPass, ArePasses, AreRounds, most_passes}

one_more_pass : (s : FluxSystem) (answers : List PassReport) (old between : ShooterFacts) (answer : PassReport) (new : ShooterFacts) → ArePasses s old answers between → IsPass s between answer new → ArePasses s old (answers ++ answer ∷ []) new
one_more_pass s [] old between answer new none pass = (new, (subst (λ (x : ShooterFacts). IsPass s x answer new) none pass, refl))
one_more_pass s (first ∷ answers) old between answer new passes pass = (passes.0, (passes.1.0, one_more_pass s answers passes.0 between answer new passes.1.1 pass))

module _ (s : FluxSystem) (old : ShooterFacts) where
  -- some passes are made: all but the last of them won something
  pub record RoundsSoFar (sums : PassReport) (won_last : ℕ) (new : ShooterFacts) : Type 0 where
    pub before : List PassReport
    pub last : PassReport
    pub each : ArePasses s old (before ++ last ∷ []) new
    pub winners : All (λ (report : PassReport). 0 < report.won) before
    pub last_is : won_last ≡ last.won
    pub passes : sums.passes ≡ length before + 1
    pub few : sums.passes ≤ most_passes
    pub won : sums.won ≡ sum_by (λ (report : PassReport). report.won) (before ++ last ∷ [])
    pub low : sums.low ≡ sum_by (λ (report : PassReport). report.low) (before ++ last ∷ [])
    pub lost : sums.lost ≡ sum_by (λ (report : PassReport). report.lost) (before ++ last ∷ [])
    pub total : sums.won + sums.low + sums.lost ≡ sums.passes * patches s
    pub seat_looks : new.seat.history.looks ≡ old.seat.history.looks + sums.passes * patches s
    pub seat_wins : new.seat.history.account.wins ≡ old.seat.history.account.wins + sums.won
    pub seat_lost : new.seat.history.lost ≡ old.seat.history.lost + sums.lost
    pub number : new.seat.number ≡ old.seat.number

  pub first_round : (answer : PassReport) (new : ShooterFacts) → IsPass s old answer new → RoundsSoFar answer answer.won new
  first_round answer new pass =
      let one = pass.passes in
      let total = pass.total in
      let n = ap (λ (x : ℕ). x * patches s) one in
      record {
        before = [];
        last = answer;
        each = (new, (pass, refl));
        winners = All-nil (λ (report : PassReport). 0 < report.won);
        last_is = refl;
        passes = one;
        few = omega arith;
        won = omega arith;
        low = omega arith;
        lost = omega arith;
        total = omega arith;
        seat_looks = let looks = pass.adds.looks in let all = pass.all in omega arith;
        seat_wins = let wins = pass.adds.wins in let won = pass.won in omega arith;
        seat_lost = let lost = pass.adds.lost in let same = pass.lost in omega arith;
        number = pass.adds.number;
      }

  pub next_round : (sums : PassReport) (won_last : ℕ) (between : ShooterFacts) (answer : PassReport) (new : ShooterFacts) (more : PassReport) → RoundsSoFar sums won_last between → 0 < won_last → sums.passes < most_passes → IsPass s between answer new
      → more ≡ record { passes = sums.passes + 1; won = sums.won + answer.won; low = sums.low + answer.low; lost = sums.lost + answer.lost } → RoundsSoFar more answer.won new
  next_round sums won_last between answer new more so won fewer pass is =
      let all : List PassReport = so.before ++ so.last ∷ [] in
      let passes = ap (λ (r : PassReport). r.passes) is in
      let last_is = so.last_is in
      record {
        before = all;
        last = answer;
        each = one_more_pass s all old between answer new so.each pass;
        winners = All-push (λ (report : PassReport). 0 < report.won) so.before so.last so.winners (omega arith);
        last_is = refl;
        passes = let had = so.passes in let long = length_push so.before so.last in omega arith;
        few = omega arith;
        won = let had = so.won in let more_won = ap (λ (r : PassReport). r.won) is in let push = sum_by_push (λ (report : PassReport). report.won) all answer in omega arith;
        low = let had = so.low in let more_low = ap (λ (r : PassReport). r.low) is in let push = sum_by_push (λ (report : PassReport). report.low) all answer in omega arith;
        lost = let had = so.lost in let more_lost = ap (λ (r : PassReport). r.lost) is in let push = sum_by_push (λ (report : PassReport). report.lost) all answer in omega arith;
        total =
            let had = so.total in
            let one = pass.total in
            let n = ap (λ (x : ℕ). x * patches s) passes in
            let more_won = ap (λ (r : PassReport). r.won) is in
            let more_low = ap (λ (r : PassReport). r.low) is in
            let more_lost = ap (λ (r : PassReport). r.lost) is in
            omega arith;
        seat_looks = let had = so.seat_looks in let looks = pass.adds.looks in let all = pass.all in let n = ap (λ (x : ℕ). x * patches s) passes in omega arith;
        seat_wins = let had = so.seat_wins in let wins = pass.adds.wins in let more_won = pass.won in let sum = ap (λ (r : PassReport). r.won) is in omega arith;
        seat_lost = let had = so.seat_lost in let lost = pass.adds.lost in let more_lost = pass.lost in let sum = ap (λ (r : PassReport). r.lost) is in omega arith;
        number = pass.adds.number ∙ so.number;
      }
