use Rattle.std.proofs.Common.{◌≡◌, ℕ, ◌<◌, List, [], ap, subst, ◌∙◌, arith}
use Rattle.std.specs.Prelude.{slice_index_or}
use Rattle.std.specs.List.{All}
use Rattle.flux_system.specs.declared.entries.Entry.{Entry}
use Rattle.std.proofs.lemmas.List.{get_or_read}
use Rattle.flux_system.specs.System.{FluxSystem, patches}
use Rattle.flux_system.specs.Entries.{column_entries, all_columns}
use Rattle.flux_system.proofs.Dense.{lists-length, list-at}
use Rattle.flux_system.proofs.Within.{column-inside, column-parts}
use Rattle.flux_system.proofs.system.System.column.Goals as goal

pub index-requires : goal.index-requires
index-requires c =
    let n = ap patches c.self.view_is in
    let long = lists-length _ _ _ c.self.invariant.of_columns in
    let ok = c.self.inside.columns.ok in
    omega arith

-- the entries are those of the numbers inside
entries_of_inside : (s : FluxSystem) (lists : List (List Entry)) (j : ℕ) (es : List Entry) → lists ≡ all_columns s → j < patches s → es ≡ slice_index_or lists j es → es ≡ column_entries s j
entries_of_inside s lists j es are h read =
    let long = lists-length _ _ _ are in
    get_or_read lists j es (omega arith) read [] ∙ list-at _ _ _ are j [] h

pub returns-clause-entries : goal.returns-clause-entries
returns-clause-entries c =
    let n = ap patches c.self.view_is in
    let is = entries_of_inside _ c.self.inside.columns.items c.args.j c.index.result.now c.self.invariant.of_columns (omega arith) c.index.ensures in
    c.as_slice.ensures ∙ (is ∙ ap (λ (s : FluxSystem). column_entries s c.args.j) c.self.view_is)

pub returns-clause-inside : goal.returns-clause-inside
returns-clause-inside c =
    let n = ap patches c.self.view_is in
    let is = entries_of_inside _ c.self.inside.columns.items c.args.j c.index.result.now c.self.invariant.of_columns (omega arith) c.index.ensures in
    subst (λ (s : FluxSystem). All (λ (e : Entry). e.patch < patches s) c.as_slice.result.now) c.self.view_is (column-inside _ c.as_slice.result.now c.args.j (c.as_slice.ensures ∙ is))

pub returns-clause-parts : goal.returns-clause-parts
returns-clause-parts c =
    let n = ap patches c.self.view_is in
    let is = entries_of_inside _ c.self.inside.columns.items c.args.j c.index.result.now c.self.invariant.of_columns (omega arith) c.index.ensures in
    column-parts _ c.as_slice.result.now c.args.j c.self.invariant.valid (omega arith) (c.as_slice.ensures ∙ is)
