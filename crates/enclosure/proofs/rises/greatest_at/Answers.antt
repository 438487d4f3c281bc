use Rattle.std.proofs.Common.{◌∙◌, arith}
use Rattle.enclosure.proofs.Greatest.{entry_of_column, so_far-more, so_far-all}
use Rattle.enclosure.proofs.rises.greatest_at.Goals as goal

pub reflectance-requires : goal.reflectance-requires
reflectance-requires c = (entry_of_column c.args.system.now c.args.j _ c.column-column.ensures.entries c.loop-entry.entry-index _ c.loop-entry-test.true).inside

pub keep-requires : goal.keep-requires
keep-requires c = (entry_of_column c.args.system.now c.args.j _ c.column-column.ensures.entries c.loop-entry.entry-index _ c.loop-entry-test.true).inside

pub loop-entry-preserved : goal.loop-entry-preserved
loop-entry-preserved c =
    so_far-more c.args.system.now c.args.j _ c.column-column.ensures.entries c.loop-entry.entry-index _ _ _ _ _ c.loop-entry-test.true (c.from.ensures ∙ c.reflectance.ensures) c.from-in-loop-entry.ensures c.keep.ensures.value
    c.loop-entry.invariant c.greater-greatest.ensures.whole c.greater-greatest.ensures.greatest

pub returns : goal.returns
returns c = so_far-all c.args.system.now c.args.j _ c.column-column.ensures.entries c.loop-entry.entry-index _ (omega arith) c.loop-entry.invariant
