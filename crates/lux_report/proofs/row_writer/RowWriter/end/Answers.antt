use Rattle.std.proofs.Common.{◌≢◌, ◌∙◌, List, ℕ, ◌++◌, append-nil, ap, sym}
use Rattle.csv.specs.declared.writer.QuoteStyle.TheVariants as style
use Rattle.csv.specs.Records.{fields_of}
use Rattle.lux_report.specs.Report.{csv_line}
use Rattle.lux_report.specs.Shapes.{bytes_of}
use Rattle.lux_report.proofs.row_writer.RowWriter.end.Goals as goal

pub returns : goal.returns
unfolding csv_line
returns c =
    let before = c.args.self.now.writer in
    let ready = c.requires in
    let plain : before.cfg.style ≢ style.NonNumeric = rw (ready.setup) (λ e. cc e) in
    let wrote = c.in-Ok.ensures in
    let bytes = rw (ready.setup) at (wrote.bytes ready.fields ready.clean plain) in
    record {
      between = record { setup = wrote.setup ∙ ready.setup; fields = wrote.ended; clean = wrote.clean };
      bytes = bytes ∙ ap (λ (line : List ℕ). bytes_of before ++ line) (sym (append-nil (csv_line (fields_of c.args.self.now.row))));
    }
