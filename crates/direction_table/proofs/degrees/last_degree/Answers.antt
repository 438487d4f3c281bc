use Rattle.std.proofs.Common.{rules}
use Rattle.std.proofs.lemmas.List.Sorted.{IsPartitionPoint-from_clause}
use Rattle.direction_table.proofs.Searched.{reaches, inner_entries, inner_entries-partitioned, searched}
use Rattle.direction_table.proofs.degrees.last_degree.Goals as goal

-- the closure tests an entry, and the slice has the entries of the inner degrees
pub returns-clause-greatest : goal.returns-clause-greatest
returns-clause-greatest c =
    let facts = c.partition_point.ensures in
    let partitioned = inner_entries-partitioned c.args.x c.args.y in
    let point = IsPartitionPoint-from_clause (reaches c.args.x c.args.y) inner_entries c.partition_point.result facts.partitioned partitioned (λ a r f' called. search rules) in
    searched c.args.x c.args.y c.partition_point.result (0, 0) facts.bound point
