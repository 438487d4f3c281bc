use Rattle.lit_room.proofs.Lighting.{too_much}
use Rattle.lit_room.proofs.parts.light_patches.Goals as goal

pub returns-in-Err-FluxTooLarge-clause-fault : goal.returns-in-Err-FluxTooLarge-clause-fault
returns-in-Err-FluxTooLarge-clause-fault c =
    let is = c.in-Err-FluxTooLarge.field-0-is in
    λ no_memory. too_much _ _ _ is (c.in-Err-FluxTooLarge.ensures.answer (λ memory. cc))
