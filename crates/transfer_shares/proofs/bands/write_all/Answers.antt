use Rattle.std.proofs.Common.{length, sym, ◌∙◌, arith}
use Rattle.std.proofs.lemmas.List.{ext_get_or}
use Rattle.transfer_shares.specs.Shares.{all_shares}
use Rattle.transfer_shares.proofs.RowParts.{length-all, whole-part, chunk-band, place-in_part}
use Rattle.transfer_shares.proofs.bands.write_all.Goals as goal

pub returns-then-n-lt-LEAST_SHARED : goal.returns-then-n-lt-LEAST_SHARED
returns-then-n-lt-LEAST_SHARED g c = c.write_band.ensures ∙ whole-part c.args.room.now _ c.requires

pub par_chunks_mut_for_each-requires-clause-accepts :
    goal.par_chunks_mut_for_each-requires-clause-accepts
par_chunks_mut_for_each-requires-clause-accepts g c κs within = λ start p chunk.
    chunk-band c.args.room.now c.len-n.result c.max-rows.result start (length p.now) (length c.args.into.now) c.len-n.ensures.value c.requires chunk.start_is_multiple chunk.len chunk.in_bounds

pub returns : goal.returns
returns g c =
    let all = all_shares c.args.room.now in
    ext_get_or 0 c.par_chunks_mut_for_each.new.s all (c.par_chunks_mut_for_each.auto.s ∙ sym (length-all c.args.room.now _ c.requires))
    (λ i h.
    let at = (c.par_chunks_mut_for_each.ensures.by_index i 0 (let same = c.par_chunks_mut_for_each.auto.s in omega arith)).1 in
    sym at.new_element ∙ place-in_part all at.after_call.now at.start (length at.argument.now) at.offset i at.call at.offset_in_chunk at.start_plus_offset)
