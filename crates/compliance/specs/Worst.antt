-- What the verdicts on some checks come to, and its exit status. This project's own rule.
use Rattle.std.specs.Prelude.{ℕ, Bool, true, false, if◌then◌else◌, List, [], ◌∷◌}
use Rattle.std.specs.List.{list_any, flat_map}
use Rattle.compliance.specs.declared.judging.Judged.{Judged}
use Rattle.compliance.specs.declared.verdicts.Verdict.{Verdict}
use Rattle.compliance.specs.declared.verdicts.Verdict.TheVariants.{Pass, Fail, Undecided}
use Rattle.compliance.specs.declared.verdicts.Worst.{Worst}
use Rattle.compliance.specs.declared.verdicts.Worst.TheVariants.{AllPass, SomeFail, SomeUndecided}

-- the verdicts on a check: that on its average and that on its uniformity
abbrev pub verdicts_on : Judged → List Verdict
verdicts_on check = check.average_verdict ∷ check.uniformity_verdict ∷ []

-- the verdicts on some checks
abbrev pub verdicts_of : List Judged → List Verdict
verdicts_of judged = flat_map verdicts_on judged

-- the two verdicts are one
abbrev pub is_verdict : Verdict → Verdict → Bool
is_verdict Pass Pass = true
is_verdict Fail Fail = true
is_verdict Undecided Undecided = true
is_verdict _ _ = false

-- some fail where one of them is a fail, otherwise some undecided where one is, otherwise all pass
abbrev pub worst_of : List Verdict → Worst
worst_of verdicts =
    if list_any (is_verdict Fail) verdicts then SomeFail else if list_any (is_verdict Undecided) verdicts then SomeUndecided else AllPass

abbrev pub status_of_worst : Worst → ℕ
status_of_worst AllPass = 0
status_of_worst SomeFail = 1
status_of_worst SomeUndecided = 2
