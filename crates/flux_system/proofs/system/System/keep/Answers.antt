use Rattle.std.proofs.Common.{ap, ◌∙◌, arith}
use Rattle.std.proofs.lemmas.List.{get_or_read}
use Rattle.flux_system.specs.System.{FluxSystem, patches, keep}
use Rattle.flux_system.proofs.Keeping.{length-kept, kept-at, keep-above}
use Rattle.flux_system.proofs.system.System.keep.Goals as goal

pub index-requires : goal.index-requires
index-requires c =
    let n = ap patches c.self.view_is in
    let long = length-kept _ c.self.inside.kept.items c.self.invariant.of_kept in
    let ok = c.self.inside.kept.ok in
    omega arith

pub returns-clause-value : goal.returns-clause-value
returns-clause-value c =
    let n = ap patches c.self.view_is in
    let long = length-kept _ c.self.inside.kept.items c.self.invariant.of_kept in
    get_or_read c.self.inside.kept.items c.args.i _ (omega arith) c.index.ensures 0
    ∙ (kept-at _ c.self.inside.kept.items c.self.invariant.of_kept c.args.i (omega arith) ∙ ap (λ (s : FluxSystem). keep s c.args.i) c.self.view_is)

pub returns-clause-positive : goal.returns-clause-positive
returns-clause-positive c =
    let n = ap patches c.self.view_is in
    let long = length-kept _ c.self.inside.kept.items c.self.invariant.of_kept in
    let value = get_or_read c.self.inside.kept.items c.args.i _ (omega arith) c.index.ensures 0 ∙ kept-at _ c.self.inside.kept.items c.self.invariant.of_kept c.args.i (omega arith) in
    let above = keep-above _ c.self.invariant.valid c.args.i (omega arith) in
    omega arith
