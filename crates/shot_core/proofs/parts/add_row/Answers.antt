use Rattle.std.proofs.Common.{ℕ, ◌+◌, ◌*◌, length, get_or, drop, ap, length-set, ◌∙◌, arith}
use Rattle.flux_system.specs.declared.entries.Entry.{Entry}
use Rattle.flux_system.specs.Shapes.{share_in}
use Rattle.shot_core.proofs.Booking.{added}
use Rattle.shot_core.proofs.parts.add_row.Goals as goal

abbrev no_entry : Entry
no_entry = record { patch = 0; share = 0 }

pub loop-entry-preserved : goal.loop-entry-preserved
loop-entry-preserved c =
    let i = c.loop-entry.invariant in
    let row = c.args.row.now in
    let k : ℕ = c.loop-entry.entry-index in
    let target : ℕ = (get_or row k no_entry).patch in
    let portion : ℕ = (get_or row k no_entry).share in
    let inside = c.requires.inside k no_entry c.loop-entry-test.true in
    let of_highs = i.of_highs in
    let of_lows = i.of_lows in
    let high_sum = ap (λ (x : ℕ). x + c.args.high * c.from-share.result) c.get.ensures in
    let low_sum = ap (λ (x : ℕ). x + c.args.low * c.from-share.result) c.get-in-loop-entry.ensures in
    let share = c.from-share.ensures in
    record {
      of_highs = ap length c.set.ensures ∙ (length-set c.loop-entry.highs target _ ∙ i.of_highs);
      of_lows = ap length c.set-in-loop-entry.ensures ∙ (length-set c.loop-entry.lows target _ ∙ i.of_lows);
      of_high = λ j h.
          (λ m. get_or (c.set.ensures m) j 0 + c.args.high * share_in (drop (k + 1) row) j)
          ∙ (added c.args.high k row no_entry c.loop-entry-test.true c.loop-entry.highs _ (omega arith) (high_sum ∙ ap (λ (x : ℕ). get_or c.loop-entry.highs target 0 + c.args.high * x) share) j ∙ i.of_high j h);
      of_low = λ j h.
          (λ m. get_or (c.set-in-loop-entry.ensures m) j 0 + c.args.low * share_in (drop (k + 1) row) j)
          ∙ (added c.args.low k row no_entry c.loop-entry-test.true c.loop-entry.lows _ (omega arith) (low_sum ∙ ap (λ (x : ℕ). get_or c.loop-entry.lows target 0 + c.args.low * x) share) j ∙ i.of_low j h);
    }
