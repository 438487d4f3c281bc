use Rattle.std.proofs.Common.{ℕ, ◌+◌, get_or, sym, ◌∙◌, arith}
use Rattle.std.proofs.lemmas.List.FromFn.{fill_by_all}
use Rattle.flux_system.specs.System.{patches}
use Rattle.shot_core.proofs.accounts.add_amounts.Goals as goal

pub returns : goal.returns
returns c s n =
    let i = c.loop-j.invariant in
    let written = i.written in
    fill_by_all (λ (j : ℕ). get_or c.args.sums.now j 0 + get_or c.args.more.now j 0) c.loop-j.sums (patches s) 0 (i.long ∙ sym n) (λ j h. written j (omega arith))
