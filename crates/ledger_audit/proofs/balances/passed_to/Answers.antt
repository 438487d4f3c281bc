use Rattle.std.proofs.Common.{◌*◌, ◌≤◌, refl, ◌∙◌, get_or, arith}
use Rattle.flux_system.specs.declared.entries.Entry.{Entry}
use Rattle.ledger_audit.proofs.Columns.{few, passed-more, passed-all, term_fits}
use Rattle.ledger_audit.proofs.balances.passed_to.Goals.{After-from-in-loop-entry-3}
use Rattle.ledger_audit.proofs.balances.passed_to.Goals as goal

pub reflectance-requires : goal.reflectance-requires
reflectance-requires c = c.column-column.ensures.inside c.loop-entry.entry-index _ c.loop-entry-test.true

pub bounds-taken-patch : goal.bounds-taken-patch
bounds-taken-patch c =
    let none : Entry = record { patch = 0; share = 0 } in
    let inside = c.column-column.ensures.inside c.loop-entry.entry-index none c.loop-entry-test.true in
    let long = c.requires.taken in
    omega arith

-- what the entry adds
term : (c : After-from-in-loop-entry-3) → c.from-in-loop-entry-2.result * c.from-in-loop-entry-3.result ≤ 18446744073709551616000000000000
term c =
    let none : Entry = record { patch = 0; share = 0 } in
    let e : Entry = get_or c.column-column.result.now c.loop-entry.entry-index none in
    let inside = c.column-column.ensures.inside c.loop-entry.entry-index none c.loop-entry-test.true in
    let part = c.column-column.ensures.parts c.loop-entry.entry-index none c.loop-entry-test.true in
    let fits = c.type_inv.taken e.patch in
    let reflects = c.requires.system.reflectances e.patch inside in
    let r_is = c.from.ensures ∙ c.reflectance.ensures in
    let t_is = c.from-in-loop-entry-2.ensures in
    let q_is = c.from-in-loop-entry.ensures in
    term_fits c.from-in-loop-entry-2.result c.from.result c.from-in-loop-entry.result c.from-in-loop-entry-3.result _ (omega arith) (omega arith) (omega arith) c.from-in-loop-entry-3.ensures refl

pub overflow_add-passed : goal.overflow_add-passed
overflow_add-passed c =
    let few = few c.args.system.now c.args.taken.now c.args.j _ c.column-column.ensures.entries in
    let all = c.requires.system.few in
    let before = c.loop-entry.invariant.small in
    let more = term c in
    omega arith

pub loop-entry-preserved : goal.loop-entry-preserved
loop-entry-preserved c =
    let before = c.loop-entry.invariant.small in
    let more = term c in
    record {
      so_far = passed-more c.args.system.now c.args.taken.now c.args.j _ c.column-column.ensures.entries c.loop-entry.entry-index _ _ _ _ _ _ c.loop-entry-test.true c.from-in-loop-entry-2.ensures
          (c.from.ensures ∙ c.reflectance.ensures) c.from-in-loop-entry.ensures c.loop-entry.invariant.so_far c.from-in-loop-entry-3.ensures refl;
      small = omega arith;
    }

pub returns-clause-fits : goal.returns-clause-fits
returns-clause-fits c =
    let few = few c.args.system.now c.args.taken.now c.args.j _ c.column-column.ensures.entries in
    let all = c.requires.system.few in
    let small = c.loop-entry.invariant.small in
    omega arith

pub returns-clause-value : goal.returns-clause-value
returns-clause-value c = passed-all c.args.system.now c.args.taken.now c.args.j _ c.column-column.ensures.entries c.loop-entry.entry-index _ (omega arith) c.loop-entry.invariant.so_far
