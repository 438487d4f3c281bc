use Rattle.std.proofs.Common.{ℕ, ◌==◌, Option, sym, subst, ◌∙◌}
use Rattle.std.specs.Prelude.{IsSome}
use Rattle.std.proofs.lemmas.Bool.{eqb-true}
use Rattle.std.proofs.lemmas.List.Quantifiers.{position-Some}
use Rattle.symmetry.proofs.Lists.{position_some}
use Rattle.symmetry.proofs.kinds.place_of_half.Goals as goal

pub unwrap-requires : goal.unwrap-requires
unwrap-requires c = subst (λ (o : Option ℕ). IsSome o) (sym c.half_among.ensures) (position_some (λ (angle : ℕ). angle == 180000) c.args.planes.now c.requires)

pub returns : goal.returns
returns c =
    let found = position-Some (λ (angle : ℕ). angle == 180000) c.args.planes.now c.unwrap.result 0 (sym c.half_among.ensures ∙ c.unwrap.ensures) in
    record { inside = found.0; half = eqb-true _ _ found.1 }
