use Rattle.std.proofs.Common.{rules, ◌≡◌, ◌∙◌, inl, inr, ap, sym, map, codes, [], None, string_bytes}
use Rattle.clap.specs.Words.{App, app_of, found_of, is_simple, rows_of}
use Rattle.clap.specs.Faults.{fault_of, is_simple_and_free}
use Rattle.clap.specs.Simple.{matches_of}
use Rattle.clap.specs.Walk.{first_of, one_of}
use Rattle.clap.proofs.WalkLemmas.{first_value-rows, one_text-rows}
use Rattle.lux_words.specs.Words.{only_operand}
use Rattle.run_words.specs.RunWords.{run_options}
use Rattle.run_words.proofs.Clap.{app, app_is}
use Rattle.run_words.proofs.Agreement.{agree, found, refused}
use Rattle.run_words.proofs.readings.find_matches.Goals as goal

pub returns-in-Ok : goal.returns-in-Ok
returns-in-Ok c =
    let words = map string_bytes c.args.words.now in
    let is : app_of c.in_ok-command.command ≡ app =
    app_is c.new-4.result c.disable_help_flag.result c.in_ok-arg.field-0 c.in_ok-arg-2.field-0 c.in_ok-command.command c.action-project.result c.action-shooters.result c.action-csv.result
    c.new-4.ensures.app c.disable_help_flag.ensures c.in_ok-arg.ensures c.in_ok-arg-2.ensures c.in_ok-command.ensures (search rules) (search rules) (search rules) (search rules) (search rules) (search rules) in
    let faultless : fault_of app words ≡ [] = ap (λ (a : App). fault_of a words) (sym is) ∙ c.in-Ok.ensures.kinds (ap is_simple_and_free is) in
    let rows_are : rows_of (found_of c.in-Ok.matches) ≡ matches_of app words = (c.in-Ok.ensures.matches (ap is_simple is)).0 ∙ ap (λ (a : App). matches_of a words) is in
    let there = found words (agree words c.requires.keyword c.requires.readable) faultless in
    record {
      project = first_value-rows (found_of c.in-Ok.matches) (codes "project") ∙ (ap (first_of (codes "project")) rows_are ∙ there.project);
      shooters = first_value-rows (found_of c.in-Ok.matches) (codes "shooters") ∙ (ap (first_of (codes "shooters")) rows_are ∙ there.shooters);
      form = one_text-rows (found_of c.in-Ok.matches) (codes "csv") ∙ (ap (one_of (codes "csv")) rows_are ∙ there.form);
    }

pub returns : goal.returns
returns c =
    let words = map string_bytes c.args.words.now in
    let is : app_of c.in_ok-command.command ≡ app =
    app_is c.new-4.result c.disable_help_flag.result c.in_ok-arg.field-0 c.in_ok-arg-2.field-0 c.in_ok-command.command c.action-project.result c.action-shooters.result c.action-csv.result
    c.new-4.ensures.app c.disable_help_flag.ensures c.in_ok-arg.ensures c.in_ok-arg-2.ensures c.in_ok-command.ensures (search rules) (search rules) (search rules) (search rules) (search rules) (search rules) in
    let none : None ≡ only_operand (codes "run") run_options words = elim (c.in-Err.ensures.kinds (ap is_simple_and_free is)) [
      | inl memory ↦ absurd (c.in_default.not-OutOfMemory (c.kind.ensures ∙ memory))
      | inr among ↦ refused words (app_of c.in_ok-command.command) _ (agree words c.requires.keyword c.requires.readable) is among
    ] in
    record { project = none; shooters = tt; form = tt }
