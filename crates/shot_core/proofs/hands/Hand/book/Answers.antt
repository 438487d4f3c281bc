use Rattle.std.proofs.Common.{ℕ, ◌+◌, ◌*◌, ◌-◌, ◌/◌, ◌%◌, ◌<◌, List, length, get_or, ap, ◌∙◌, arith}
use Rattle.flux_system.specs.System.{FluxSystem, scale, patches, coefficient}
use Rattle.shot_core.specs.Shots.{parts_after, amounts_after}
use Rattle.shot_core.proofs.Lists.{list-at, list-length}
use Rattle.shot_core.proofs.Booking.{part_more, part_fits, total_fits}
use Rattle.shot_core.proofs.Keeping.{alike_amounts, alike_fractions}
use Rattle.shot_core.proofs.hands.Hand.book.Goals as goal

-- where all sums fit, so do the parts that they come from
sums_fit : (s : FluxSystem) (i t : ℕ) (amounts fractions : List ℕ) → ((j : ℕ) → j < patches s → get_or (amounts_after s i t amounts fractions) j 0 < 18446744073709551616) → (j : ℕ) → j < patches s → scale * get_or amounts j 0 + parts_after s i t fractions j < scale * 18446744073709551616
sums_fit s i t amounts fractions fit j h =
    let at = list-at (λ k. get_or amounts k 0 + parts_after s i t fractions k / scale) (patches s) j h in
    let fits = fit j h in
    total_fits (get_or amounts j 0) (parts_after s i t fractions j) (omega arith)

pub pass_on-requires-clause-fits : goal.pass_on-requires-clause-fits
pass_on-requires-clause-fits c =
    let s = c.args.system.now in
    let hand = c.loop-rest.self-inside in
    λ j h.
    part_fits (get_or hand.amounts j 0) (get_or hand.fractions j 0) (coefficient s c.args.patch j) 10000000000000000 c.loop-rest.rest _ (omega arith) (c.loop-rest.invariant.total j h)
    (sums_fit s c.args.patch c.args.t c.args.self.now.amounts c.args.self.now.fractions c.requires.fits j h)

pub loop-rest-preserved : goal.loop-rest-preserved
loop-rest-preserved c =
    let s = c.args.system.now in
    let i = c.loop-rest.invariant in
    let hand = c.loop-rest.self-inside in
    record {
      of_amounts = ap length c.pass_on.ensures.residual ∙ list-length _ (patches s);
      of_fractions = ap length c.pass_on.ensures.fractions ∙ list-length _ (patches s);
      small = c.pass_on.ensures.small;
      total = λ j h.
          let amount = (λ k. get_or (c.pass_on.ensures.residual k) j 0) ∙ list-at (λ k. get_or hand.amounts k 0 + parts_after s c.args.patch 10000000000000000 hand.fractions k / scale) (patches s) j h in
          let fraction = (λ k. get_or (c.pass_on.ensures.fractions k) j 0) ∙ list-at (λ k. parts_after s c.args.patch 10000000000000000 hand.fractions k % scale) (patches s) j h in
          part_more (get_or hand.amounts j 0) (get_or hand.fractions j 0) (coefficient s c.args.patch j) 10000000000000000 (c.loop-rest.rest - 10000000000000000) c.loop-rest.rest _ _ (omega arith) amount fraction ∙ i.total j h;
    }

pub pass_on-requires-2-clause-fits : goal.pass_on-requires-2-clause-fits
pass_on-requires-2-clause-fits c =
    λ j h.
    let total = c.loop-rest.invariant.total j h in
    let fits = sums_fit c.args.system.now c.args.patch c.args.t c.args.self.now.amounts c.args.self.now.fractions c.requires.fits j h in
    omega arith

pub returns-clause-amounts : goal.returns-clause-amounts
returns-clause-amounts c =
    let old = c.args.self.now in
    c.pass_on-2.ensures.residual ∙ alike_amounts c.args.system.now c.args.patch c.loop-rest.rest c.args.t _ _ old.amounts old.fractions c.loop-rest.invariant.total

pub returns-clause-fractions : goal.returns-clause-fractions
returns-clause-fractions c =
    let old = c.args.self.now in
    c.pass_on-2.ensures.fractions ∙ alike_fractions c.args.system.now c.args.patch c.loop-rest.rest c.args.t _ _ old.amounts old.fractions c.loop-rest.invariant.total
