use Rattle.std.proofs.Common.{ℕ, ap, sym, ◌∙◌, rules, unwrap_or, Option}
use Rattle.std.proofs.lemmas.Iterator.Adapters.{option_map_id}
use Rattle.std.proofs.lemmas.Iterator.{YieldsList-from_slice, YieldsList-from_map}
use Rattle.std.proofs.lemmas.Iterator.Consumers.{min_from_yields_List}
use Rattle.compliance.proofs.judging.leasts.Goals as goal

pub returns-clause-low : goal.returns-clause-low
returns-clause-low c =
    let least = sym (option_map_id c.min.result) ∙ min_from_yields_List _ _ c.min.ensures.ran (YieldsList-from_map _ (λ (ends : ℕ × ℕ). ends.0) (YieldsList-from_slice c.args.points.now cc) c.map.ensures.closure (λ x r q k. search rules)) in
    c.unwrap_or.ensures ∙ ap (λ (r : Option ℕ). unwrap_or r 0) least

pub returns-clause-high : goal.returns-clause-high
returns-clause-high c =
    let least = sym (option_map_id c.min-2.result) ∙ min_from_yields_List _ _ c.min-2.ensures.ran (YieldsList-from_map _ (λ (ends : ℕ × ℕ). ends.1) (YieldsList-from_slice c.args.points.now cc) c.map-2.ensures.closure (λ x r q k. search rules)) in
    c.unwrap_or-2.ensures ∙ ap (λ (r : Option ℕ). unwrap_or r 0) least
