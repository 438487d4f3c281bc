use Rattle.std.proofs.Common.{◌∙◌, sym, rules, tests}
use Rattle.std.specs.List.{list_any}
use Rattle.std.proofs.lemmas.Iterator.{YieldsList-from_slice}
use Rattle.std.proofs.lemmas.Iterator.Search.{any_from_yields_List}
use Rattle.compliance.proofs.Joined.{list_any_of_flat_map}
use Rattle.compliance.specs.Worst.{is_verdict, verdicts_on}
use Rattle.compliance.proofs.worsts.is_among.Goals as goal

pub returns : goal.returns
returns c =
    let is = is_verdict c.args.verdict in
    any_from_yields_List (λ check. list_any is (verdicts_on check)) _ _ c.any.result c.any.ensures.ran (YieldsList-from_slice c.args.judged.now cc) (λ x b q k. search (rules, tests))
    ∙ sym (list_any_of_flat_map is verdicts_on c.args.judged.now)
