use Rattle.std.proofs.Common.{◌∙◌, ap, sym}
use Rattle.std.specs.List.{position_or_len}
use Rattle.std.specs.Str.{bytes_eq}
use Rattle.project_file.specs.Shapes.{texts}
use Rattle.project_file.proofs.Files.{texts_insert, place_insert}
use Rattle.project_file.proofs.luminaires.add_file.Goals as goal

pub returns-clause-value : goal.returns-clause-value
returns-clause-value c =
    let e = c.in_ok-number.ensures in
    e.index ∙ (place_insert c.args.files.now.keys c.args.file ∙ ap (λ ks. position_or_len (bytes_eq c.args.file.now) (texts ks)) (sym e.keys))

pub returns-clause-files : goal.returns-clause-files
returns-clause-files c = ap texts c.in_ok-number.ensures.keys ∙ texts_insert c.args.files.now.keys c.args.file
