use Rattle.std.proofs.Common.{◌*◌, get_or, ◌∙◌, sym, refl, arith}
use Rattle.std.proofs.lemmas.Bool.{false≢true}
use Rattle.flux_system.specs.System.{patches, scale, coefficient}
use Rattle.exact_model.proofs.Exact.{to_signed, from_signed}
use Rattle.exact_model.proofs.checks.is_solution.Goals as goal

pub returns-then-not-holds_at : goal.returns-then-not-holds_at
returns-then-not-holds_at c =
    let s = c.args.system.now in
    let j = c.loop-patch.patch in (
      λ t. absurd (false≢true t),
      λ solves. sym c.if-not-holds_at.true ∙ c.holds_at.ensures.1 (from_signed (patches s) scale (c.args.den * (scale * get_or c.args.direct.now j 0)) (λ i. coefficient s i j) (λ i. get_or c.args.num.now i 0) j (solves.equation j (omega arith))),
    )

pub returns : goal.returns
returns c =
    let s = c.args.system.now in (
      λ t. record {
        positive = omega arith;
        equation = λ j h. to_signed (patches s) scale (c.args.den * (scale * get_or c.args.direct.now j 0)) (λ i. coefficient s i j) (λ i. get_or c.args.num.now i 0) j (c.loop-patch.invariant.each j (omega arith));
      },
      λ solves. refl,
    )
