use Rattle.std.proofs.Common.{ap, ◌∙◌}
use Rattle.shot_core.specs.Hands.{Holdings}
use Rattle.shot_core.specs.Shapes.{with_batch}
use Rattle.shot_core.proofs.Carrying.{nothing_batched}
use Rattle.shot_core.proofs.batches.BatchHand.new.Goals as goal

pub returns : goal.returns
returns c =
    ap (λ (h : Holdings). with_batch h c.in_ok-zeros.field-0 c.in_ok-zeros-2.field-0) c.in_ok-new.ensures
    ∙ nothing_batched c.args.n c.in_ok-zeros.field-0 c.in_ok-zeros-2.field-0 c.in_ok-zeros.ensures c.in_ok-zeros-2.ensures
