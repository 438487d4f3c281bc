use Rattle.std.proofs.Common.{sym, ◌∙◌}
use Rattle.room_patches.proofs.Tests.{refused_by_number, refused_by_reflectance}
use Rattle.room_patches.proofs.checks.spec_fault.Goals as goal

pub returns-then-n : goal.returns-then-n
returns-then-n c =
    sym (refused_by_number c.args.room _ (sym c.has_size.ensures ∙ c.if-not-has_size.false) (sym c.has_counts.ensures ∙ c.if-not-has_counts.false) c.patch_count-n.ensures c.if-n.true)

pub returns-then-not-has_reflectances : goal.returns-then-not-has_reflectances
returns-then-not-has_reflectances c =
    sym (refused_by_reflectance c.args.room _ (sym c.has_size.ensures ∙ c.if-not-has_size.false) (sym c.has_counts.ensures ∙ c.if-not-has_counts.false) c.patch_count-n.ensures c.if-n.false
    (sym c.has_reflectances.ensures ∙ c.if-not-has_reflectances.true))
