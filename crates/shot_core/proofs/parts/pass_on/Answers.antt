use Rattle.std.proofs.Common.{ℕ, ◌+◌, ◌*◌, ◌/◌, ◌%◌, length, get_or, set, drop, sym, ap, subst, length-set, ◌∙◌, arith}
use Rattle.std.proofs.lemmas.List.FromFn.{fill_by_all}
use Rattle.flux_system.specs.declared.entries.Entry.{Entry}
use Rattle.flux_system.specs.System.{scale, patches}
use Rattle.flux_system.specs.Shapes.{share_in}
use Rattle.shot_core.specs.Shots.{parts_after}
use Rattle.shot_core.specs.Shapes.{AreSmall}
use Rattle.shot_core.proofs.Booking.{row-share, split_is, to_pass, booked, small_after, booking_fits, rest-share-none, whole_part, rest_part}
use Rattle.shot_core.proofs.parts.pass_on.Goals as goal

abbrev no_entry : Entry
no_entry = record { patch = 0; share = 0 }

pub loop-entry-init : goal.loop-entry-init
loop-entry-init c = record {
  of_residual = c.requires.residual;
  of_fractions = c.requires.fractions;
  small = c.requires.small;
  total = λ j h. let passed = to_pass c.args.system.now c.args.patch c.args.t _ c.row-row.result.now j (ap (λ (r : ℕ). c.args.t * r) (c.from.ensures ∙ c.reflectance.ensures)) (row-share c.args.system.now c.args.patch c.row-row.result.now c.row-row.ensures.entries j h) in omega arith;
}

pub overflow_add-sum : goal.overflow_add-sum
overflow_add-sum c =
    let s = c.args.system.now in
    let i = c.loop-entry.invariant in
    let row = c.row-row.result.now in
    let target : ℕ = (get_or row c.loop-entry.entry-index no_entry).patch in
    let inside = c.row-row.ensures.inside c.loop-entry.entry-index no_entry c.loop-entry-test.true in
    let amount = c.split_parts-amount.ensures.amount ∙ ap (λ (x : ℕ). x / scale) (split_is (c.args.t * c.from.result) _ c.get-fraction.result _ c.from-in-loop-entry.result c.get-fraction.ensures c.from-in-loop-entry.ensures) in
    let have = c.get.ensures in
    let fits = booking_fits (c.args.t * c.from.result) c.loop-entry.entry-index row no_entry c.loop-entry-test.true c.loop-entry.residual c.loop-entry.fractions c.split_parts-amount.result.0 _ amount (i.total target inside) (c.requires.fits target inside) in
    omega arith

pub loop-entry-preserved : goal.loop-entry-preserved
loop-entry-preserved c =
    let s = c.args.system.now in
    let i = c.loop-entry.invariant in
    let row = c.row-row.result.now in
    let k : ℕ = c.loop-entry.entry-index in
    let factor : ℕ = c.args.t * c.from.result in
    let target : ℕ = (get_or row k no_entry).patch in
    let portion : ℕ = (get_or row k no_entry).share in
    let inside = c.row-row.ensures.inside k no_entry c.loop-entry-test.true in
    let of_residual = i.of_residual in
    let of_fractions = i.of_fractions in
    let split = split_is factor (get_or c.loop-entry.fractions target 0) c.get-fraction.result portion c.from-in-loop-entry.result c.get-fraction.ensures c.from-in-loop-entry.ensures in
    let amount = c.split_parts-amount.ensures.amount ∙ ap (λ (x : ℕ). x / scale) split in
    let rest = c.split_parts-amount.ensures.fraction ∙ ap (λ (x : ℕ). x % scale) split in
    let residual = c.set.ensures ∙ ap (λ (x : ℕ). set c.loop-entry.residual target (x + c.split_parts-amount.result.0)) c.get.ensures in
    record {
      of_residual = ap length c.set.ensures ∙ (length-set c.loop-entry.residual target _ ∙ of_residual);
      of_fractions = ap length c.set-in-loop-entry.ensures ∙ (length-set c.loop-entry.fractions target _ ∙ of_fractions);
      small = subst AreSmall (sym c.set-in-loop-entry.ensures) (small_after c.loop-entry.fractions target c.split_parts-amount.result.1 (omega arith) i.small);
      total = λ j h.
          (λ m. scale * get_or (residual m) j 0 + get_or (c.set-in-loop-entry.ensures m) j 0 + factor * share_in (drop (k + 1) row) j)
          ∙ (booked factor k row no_entry c.loop-entry-test.true c.loop-entry.residual c.loop-entry.fractions c.split_parts-amount.result.0 c.split_parts-amount.result.1 (omega arith) (omega arith) amount rest j ∙ i.total j h);
    }

pub returns-clause-residual : goal.returns-clause-residual
returns-clause-residual c =
    let i = c.loop-entry.invariant in
    let s = c.args.system.now in
    fill_by_all (λ (j : ℕ). get_or c.args.residual.now j 0 + parts_after s c.args.patch c.args.t c.args.fractions.now j / scale) c.loop-entry.residual (patches s) 0 i.of_residual
    (λ j h. let none = rest-share-none c.row-row.result.now c.loop-entry.entry-index j (omega arith) in let product = ap (λ (x : ℕ). c.args.t * c.from.result * x) none in let total = i.total j h in let of = i.of_fractions in whole_part _ (get_or c.loop-entry.fractions j 0) _ _ (omega arith) (i.small j (omega arith)))

pub returns-clause-fractions : goal.returns-clause-fractions
returns-clause-fractions c =
    let i = c.loop-entry.invariant in
    let s = c.args.system.now in
    fill_by_all (λ (j : ℕ). parts_after s c.args.patch c.args.t c.args.fractions.now j % scale) c.loop-entry.fractions (patches s) 0 i.of_fractions
    (λ j h. let none = rest-share-none c.row-row.result.now c.loop-entry.entry-index j (omega arith) in let product = ap (λ (x : ℕ). c.args.t * c.from.result * x) none in let total = i.total j h in let of = i.of_fractions in rest_part (get_or c.loop-entry.residual j 0) _ (get_or c.args.residual.now j 0) _ (omega arith) (i.small j (omega arith)))
