use Rattle.std.proofs.Common.{◌≡◌, Option, Some, None, true, true≢false, sym}
use Rattle.std.specs.Prelude.{is_some}
use Rattle.project_file.specs.Fields.{is_kind, table}
use Rattle.project_file.proofs.Lists.{listed_at, all_at}
use Rattle.project_file.proofs.sections.listed_table.Goals as goal

not_none : {A : Type 0} (found : Option A) → None ≡ found → is_some found ≡ true → ⊥
not_none None none some = true≢false (sym some)
not_none (Some found) none some = cc

pub unreachable-requires : goal.unreachable-requires
unreachable-requires c =
    not_none _ c.in-None.ensures (rw (← c.index-items-number.is) at (all_at (is_kind table) c.args.items.now c.args.number c.index-items-number.result c.requires.tables c.requires.within))

pub returns : goal.returns
returns c =
    rw (listed_at c.args.items.now c.args.number c.index-items-number.result c.requires.within, ← c.index-items-number.is, ← c.in-Some.ensures)
