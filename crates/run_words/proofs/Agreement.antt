-- `clap` and the plain rule agree on words that pass the first test.
use Rattle.std.proofs.Common.{◌≡◌, ◌∙◌, List, [], ◌∷◌, true, Option, Some, None, option_map, codes, refl, sym, subst, drop}
use Rattle.std.specs.List.{list_all}
use Rattle.clap.specs.Walk.{Row, first_of, one_of}
use Rattle.clap.specs.Values.{bool_text}
use Rattle.clap.specs.Simple.{App, matches_of}
use Rattle.clap.specs.Faults.{fault_of}
use Rattle.clap.specs.Kinds.{IsAmong, Kinds as Faults}
use Rattle.clap.specs.declared.error.kind.ErrorKind.{ErrorKind}
use Rattle.lux_words.specs.Words.{only_operand, setting_of, word_at}
use Rattle.run_words.specs.RunWords.{is_csv, run_options}
use Rattle.run_words.specs.Shapes.{is_readable}
use Rattle.run_words.proofs.Clap.{app}
use Rattle.run_words.proofs.ClapWalk.{Finds, clap_finds}
use Rattle.run_words.proofs.PlainRule.{plain_rule, plain_says}
use Rattle.run_words.proofs.WordKinds.{Text, Said, kinds_of}

pub agree : (words : List Text) → word_at words 0 ≡ codes "run" → list_all is_readable (drop 1 words) ≡ true → Finds (plain_rule words) (fault_of app words) (matches_of app words)
agree [] keyword readable = absurd cc
agree (word ∷ words) keyword readable =
    subst (λ (w : Text). Finds (plain_rule (w ∷ words)) (fault_of app (w ∷ words)) (matches_of app (w ∷ words))) (sym keyword)
    (subst (λ (o : Option Said). Finds o (fault_of app (codes "run" ∷ words)) (matches_of app (codes "run" ∷ words))) (sym (plain_says words (kinds_of words readable)))
    (clap_finds (codes "run") words (kinds_of words readable)))

-- what is found in words that `clap` takes
pub record Found (words : List Text) (rows : List Row) : Type 0 where
  pub project : first_of (codes "project") rows ≡ only_operand (codes "run") run_options words
  pub shooters : first_of (codes "shooters") rows ≡ setting_of (codes "--shooters") words
  pub form : one_of (codes "csv") rows ≡ Some (bool_text (is_csv words))

pub found : (words : List Text) → Finds (plain_rule words) (fault_of app words) (matches_of app words) → fault_of app words ≡ [] → Found words (matches_of app words)
found words finds faultless = go (only_operand (codes "run") run_options words) refl finds
  where
    go : (o : Option Text) → only_operand (codes "run") run_options words ≡ o
        → Finds (option_map (λ project. record { project = project; shooters = setting_of (codes "--shooters") words; csv = is_csv words }) o) (fault_of app words) (matches_of app words)
        → Found words (matches_of app words)
    go None is there = absurd (there faultless)
    go (Some file) is there = record { project = there.1 ∙ sym is; shooters = there.2; form = there.3 }

-- words that `clap` refuses are no command
pub refused : (words : List Text) (a : App) (fault : ErrorKind) → Finds (plain_rule words) (fault_of app words) (matches_of app words) → a ≡ app → IsAmong fault (fault_of a words) → None ≡ only_operand (codes "run") run_options words
refused words a fault finds is among = go (only_operand (codes "run") run_options words) refl finds (subst (λ (b : App). IsAmong fault (fault_of b words)) is among)
  where
    go : (o : Option Text) → only_operand (codes "run") run_options words ≡ o
        → Finds (option_map (λ project. record { project = project; shooters = setting_of (codes "--shooters") words; csv = is_csv words }) o) (fault_of app words) (matches_of app words)
        → IsAmong fault (fault_of app words) → None ≡ only_operand (codes "run") run_options words
    go None same there found_there = sym same
    go (Some file) same there found_there = absurd (subst (λ (faults : Faults). IsAmong fault faults) there.0 found_there)
