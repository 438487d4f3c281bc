use Rattle.std.proofs.Common.{◌≡◌, ◌++◌, take}
use Rattle.std.specs.List.{flat_map}
use Rattle.lux_report.specs.Facts.{judged_checks}
use Rattle.lux_report.specs.Report.{check_lines}
use Rattle.lux_report.proofs.texts.push_checks.Given as goal

-- the text before, and the lines of the checks so far
abbrev pub invariant-loop-number : goal.invariant-loop-number
invariant-loop-number l =
    l.text.items ≡ l.initial.text.items ++ flat_map (λ c. check_lines c.0 c.1.0 c.1.1) (take l.number (judged_checks l.project l.facts))
