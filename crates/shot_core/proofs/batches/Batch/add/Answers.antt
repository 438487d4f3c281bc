use Rattle.std.proofs.Common.{ℕ, ◌+◌, ◌*◌, ◌/◌, ◌%◌, get_or, ap, ◌∙◌, arith}
use Rattle.flux_system.specs.Shapes.{share_in}
use Rattle.shot_core.proofs.Booking.{row-share}
use Rattle.shot_core.proofs.Carrying.{share_below, product_below}
use Rattle.shot_core.proofs.batches.Batch.add.Goals as goal

pub add_row-requires-clause-high : goal.add_row-requires-clause-high
add_row-requires-clause-high c = λ j h.
    let s = c.args.system.now in
    let lengths = c.requires.lengths.0 in
    let share = row-share s c.args.patch c.row.result.now c.row.ensures.entries j (omega arith) in
    let below = share_below s c.len.ensures.system c.args.patch j c.requires.patch (omega arith) in
    let product = product_below (c.args.factor / 1000000000) (share_in c.row.result.now j) (omega arith) in
    let most = c.requires.most in
    let high = c.requires.high j (omega arith) in
    omega arith

pub add_row-requires-clause-low : goal.add_row-requires-clause-low
add_row-requires-clause-low c = λ j h.
    let s = c.args.system.now in
    let lengths = c.requires.lengths.0 in
    let share = row-share s c.args.patch c.row.result.now c.row.ensures.entries j (omega arith) in
    let below = share_below s c.len.ensures.system c.args.patch j c.requires.patch (omega arith) in
    let product = product_below (c.args.factor % 1000000000) (share_in c.row.result.now j) (omega arith) in
    let shots = c.requires.shots in
    let low = c.requires.low j (omega arith) in
    omega arith

pub returns-clause-highs : goal.returns-clause-highs
returns-clause-highs c = λ j h.
    let share = row-share c.args.system.now c.args.patch c.row.result.now c.row.ensures.entries j h in
    let lengths = c.requires.lengths.0 in
    c.add_row.ensures.highs j (omega arith) ∙ ap (λ (x : ℕ). get_or c.args.self.now.highs j 0 + c.args.factor / 1000000000 * x) share

pub returns-clause-lows : goal.returns-clause-lows
returns-clause-lows c = λ j h.
    let share = row-share c.args.system.now c.args.patch c.row.result.now c.row.ensures.entries j h in
    let lengths = c.requires.lengths.0 in
    c.add_row.ensures.lows j (omega arith) ∙ ap (λ (x : ℕ). get_or c.args.self.now.lows j 0 + c.args.factor % 1000000000 * x) share
