use Rattle.std.proofs.Common.{Err, Ok, List, length, get_or, ap, subst, ◌∙◌, rules, arith}
use Rattle.std.specs.List.Sorted.{IsBinarySearchResult}
use Rattle.std.specs.Ordering.{nat_cmp}
use Rattle.std.proofs.lemmas.List.Sorted.{answers_always}
use Rattle.flux_system.specs.declared.entries.Entry.{Entry}
use Rattle.flux_system.specs.System.{patches, share}
use Rattle.flux_system.specs.Entries.{row_entries}
use Rattle.flux_system.proofs.Searching.{found, absent}
use Rattle.flux_system.proofs.system.System.share.Goals as goal

pub returns-in-Ok : goal.returns-in-Ok
unfolding row_entries
returns-in-Ok c =
    let s = c.args.self.now in
    let result = c.in-Ok.ensures.position (λ entry. entry.patch) (answers_always _ _ _ (λ f a r g called. search rules)) in
    let there = subst (λ (es : List Entry). IsBinarySearchResult (λ entry. nat_cmp entry.patch c.args.j) es (Ok c.in-Ok.place)) c.row-row.ensures.entries result in
    let long = ap (λ (es : List Entry). length es) c.row-row.ensures.entries in
    let inside = c.in-Ok.ensures.bound in
    ap (λ (es : List Entry). (get_or es c.in-Ok.place (record { patch = 0; share = 0 })).share) c.row-row.ensures.entries
    ∙ found (patches s) (share s c.args.i) c.args.j c.requires.to c.in-Ok.place (omega arith) there _

pub returns-in-Err : goal.returns-in-Err
unfolding row_entries
returns-in-Err c =
    let s = c.args.self.now in
    let result = c.in-Err.ensures.position (λ entry. entry.patch) (answers_always _ _ _ (λ f a r g called. search rules)) in
    let gap = subst (λ (es : List Entry). IsBinarySearchResult (λ entry. nat_cmp entry.patch c.args.j) es (Err c.in-Err.field-0)) c.row-row.ensures.entries result in
    absent (patches s) (share s c.args.i) c.args.j c.requires.to c.in-Err.field-0 gap
