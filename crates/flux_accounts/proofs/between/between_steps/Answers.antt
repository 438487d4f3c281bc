use Rattle.std.proofs.Common.{map}
use Rattle.shot_core.proofs.Pooled.{is_conserved, wins_are_bounded, words_are_bounded}
use Rattle.flux_accounts.specs.Histories.{account_of}
use Rattle.flux_accounts.proofs.between.between_steps.Goals as goal

pub returns : goal.returns
returns c s direct t kept =
    let accounts = kept.accounts in
    record {
      accounts = accounts;
      conserved = is_conserved s direct kept.residual (map account_of t.views) accounts;
      wins = wins_are_bounded s direct kept.residual (map account_of t.views) accounts;
      words = words_are_bounded s direct kept.residual (map account_of t.views) accounts;
    }
