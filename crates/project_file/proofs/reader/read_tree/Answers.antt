use Rattle.std.proofs.Common.{◌≡◌, List, ℕ, None, inl, inr, ◌∙◌}
use Rattle.std.proofs.lemmas.Bool.{cases_Bool}
use Rattle.std.proofs.lemmas.Str.{IsUtf8-from_is_utf8, is_utf8-from_IsUtf8}
use Rattle.std.specs.Str.{IsUtf8, is_utf8}
use Rattle.toml.specs.Parse.{parse_document}
use Rattle.project_file.specs.Projects.{tree_of}
use Rattle.project_file.proofs.reader.read_tree.Goals as goal

no_tree : (bytes : List ℕ) → (IsUtf8 bytes → ⊥) → tree_of bytes ≡ None
no_tree bytes no_text =
    elim (cases_Bool (is_utf8 bytes)) [
      | inl text ↦ absurd (no_text (IsUtf8-from_is_utf8 bytes text))
      | inr other ↦ rw other
    ]

tree : (bytes : List ℕ) → IsUtf8 bytes → tree_of bytes ≡ parse_document bytes
tree bytes text = rw (is_utf8-from_IsUtf8 bytes text)

pub returns-in_default-clause-none : goal.returns-in_default-clause-none
returns-in_default-clause-none c = λ ne. no_tree c.args.text.now c.in_default.ensures.cases.0

pub returns-in-Ok-table_from_str-clause-ok : goal.returns-in-Ok-table_from_str-clause-ok
returns-in-Ok-table_from_str-clause-ok c = tree c.args.text.now c.in-Ok.ensures.cases.1 ∙ (rw c.in-Ok.ensures.cases.0 at c.in-Ok-table_from_str.ensures.ok)
