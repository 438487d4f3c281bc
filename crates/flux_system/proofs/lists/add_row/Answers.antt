use Rattle.std.proofs.Common.{ℕ, ◌++◌, [], length, get_or, arith}
use Rattle.std.proofs.lemmas.List.FromFn.{fill_by_all}
use Rattle.flux_system.specs.Entries.{entry_of}
use Rattle.flux_system.proofs.lists.add_row.Goals as goal

pub returns : goal.returns
returns c =
    let i = c.loop-j.invariant in
    fill_by_all (λ (j : ℕ). get_or c.args.columns.now j [] ++ entry_of c.args.patch (get_or c.args.row.now j 0)) c.loop-j.columns (length c.args.row.now) [] i.long (λ k h. i.written k (omega arith))
