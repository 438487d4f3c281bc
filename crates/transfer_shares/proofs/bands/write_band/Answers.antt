use Rattle.std.proofs.Common.{◌+◌, ◌/◌, ◌≤◌, length, ◌∙◌, rules}
use Rattle.transfer_shares.proofs.RowParts.{rows_within, rows_are_part}
use Rattle.transfer_shares.proofs.bands.write_band.Goals as goal

pub slice_bounds-write_rows-end : goal.slice_bounds-write_rows-end
slice_bounds-write_rows-end c =
    let within : c.args.start / c.len-n.result + length c.args.into.now / c.len-n.result ≤ length c.patches-patches.result.now =
    rows_within c.args.room.now c.len-n.result c.args.start (length c.args.into.now) c.patches-patches.result.now c.patches-patches.ensures.value c.len-n.ensures.value c.len-n.ensures.some c.requires in
    search rules

pub returns : goal.returns
returns c =
    c.write_rows.ensures
    ∙ rows_are_part c.args.room.now c.len-n.result c.args.start (length c.args.into.now) c.patches-patches.result.now c.patches-patches.ensures.value c.len-n.ensures.value c.len-n.ensures.some c.requires
