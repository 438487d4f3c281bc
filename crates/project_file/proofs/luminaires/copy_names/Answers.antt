use Rattle.std.proofs.Common.{◌≡◌, ◌∙◌, ◌++◌, ◌∷◌, [], true}
use Rattle.project_file.specs.Shapes.{texts, are_names}
use Rattle.project_file.proofs.Files.{name_at, texts_take}
use Rattle.project_file.proofs.luminaires.copy_names.Goals as goal

pub copy_name-requires : goal.copy_name-requires
copy_name-requires c =
    let named : are_names (texts c.as_slice-kept.result.now) ≡ true = rw c.as_slice-kept.ensures.keys c.requires in
    name_at c.as_slice-kept.result.now c.loop-file.file-index _ named c.loop-file-test.true

pub loop-file-preserved : goal.loop-file-preserved
loop-file-preserved c =
    rw (texts_take c.as_slice-kept.result.now c.loop-file.file-index (record { ref_ptr = (0, 0); now = [] }) c.loop-file-test.true)
    (c.in_ok-push.ensures.items ∙ (λ j. c.loop-file.invariant j ++ c.in_ok-copy_name.ensures.value j ∷ []))
