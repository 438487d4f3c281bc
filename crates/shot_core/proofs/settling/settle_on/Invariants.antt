use Rattle.std.proofs.Common.{◌≡◌, ℕ, ◌<◌, ◌≤◌, length, get_or}
use Rattle.flux_ledger.specs.Balance.{unshot, IsBalanced, IsPaid}
use Rattle.shot_core.specs.Settling.{brightest_patch, settled_ledger}
use Rattle.shot_core.specs.Shapes.{AreSmall}
use Rattle.shot_core.proofs.settling.settle_on.Given as goal

abbrev pub invariant-loop-flux : goal.invariant-loop-flux
invariant-loop-flux l = record {
  balanced : IsBalanced l.system l.ledger;
  paid : IsPaid l.system l.ledger;
  small : AreSmall l.ledger.err;
  alike : settled_ledger l.system l.ledger ≡ settled_ledger l.system l.fn.ledger;
  direct : l.ledger.direct ≡ l.fn.ledger.direct;
  parts : l.ledger.parts ≡ l.fn.ledger.parts;
  follows : l.tournament ≡ l.ledger.residual;
  first : l.patch ≡ brightest_patch l.ledger.residual;
  is : l.flux ≡ get_or l.ledger.residual l.patch 0;
  inside : l.patch < length l.ledger.residual;
  most : (k : ℕ) → k < length l.ledger.residual → get_or l.ledger.residual k 0 ≤ l.flux;
}

abbrev pub decreases-loop-flux : goal.decreases-loop-flux
decreases-loop-flux l = unshot l.system l.ledger
