use Rattle.std.proofs.Common.{◌≡◌, ℕ, ◌+◌, ◌*◌, map, ap, ◌∙◌, arith}
use Rattle.std.specs.Prelude.{slice_index}
use Rattle.std.specs.List.{range_with_len}
use Rattle.flux_system.specs.Entries.{entries_below}
use Rattle.flux_system.proofs.Dense.{range-same, lists-length, columns-more, all_written}
use Rattle.flux_system.proofs.lists.group_from.Goals as goal

pub loop-i-preserved : goal.loop-i-preserved
loop-i-preserved c =
    let w = c.args.many in
    let shares : ℕ → ℕ → ℕ = λ i j. slice_index c.args.shares.now (i * c.args.n + (c.args.first + j)) in
    let i = c.loop-i.i in
    let row_is : c.part_of_row-row.result.now ≡ map (shares i) (range_with_len 0 w) =
    c.part_of_row-row.ensures.value
    ∙ range-same w (λ j. slice_index c.args.shares.now (i * c.args.n + c.args.first + j)) (shares i) (λ j h. ap (slice_index c.args.shares.now) (omega arith)) in
    let before = c.as_mut_slice.ensures.value ∙ c.loop-i.invariant in
    let after = c.in_ok-add_row.ensures ∙ columns-more shares w i c.part_of_row-row.result.now c.as_mut_slice.result.now row_is before in
    let long = lists-length _ _ _ after in
    let was = lists-length _ _ _ c.loop-i.invariant in
    let ok = c.loop-i.columns.ok in
    all_written c.loop-i.columns.len c.add_row.new.columns c.loop-i.columns.items (omega arith) (omega arith) ∙ after

pub returns : goal.returns
returns c =
    let all : c.loop-i.i ≡ c.args.n = omega arith in
    c.loop-i.invariant
    ∙ ap (λ (m : ℕ). map (λ j. entries_below m (λ i. slice_index c.args.shares.now (i * c.args.n + (c.args.first + j)))) (range_with_len 0 c.args.many)) all
