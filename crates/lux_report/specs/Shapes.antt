-- Shapes that only the code stands on: a writer of rows while it writes. No public clause cites these.
use Rattle.std.specs.Prelude.{◌≡◌, ℕ, false, List, [], ◌++◌, Vec}
use Rattle.std.specs.declared.alloc.Global.{Global}
use Rattle.csv.specs.Records.{fields_of, partial_of}
use Rattle.csv.specs.Writing.{writer_under, writer_pending, writer_setup, fields_written, has_written, default_writer}
use Rattle.csv.specs.declared.writer.Writer.{Writer}
use Rattle.lux_report.specs.declared.row_writer.RowWriter.{RowWriter}
use Rattle.lux_report.specs.Report.{csv_text}

-- what a writer into a vector has written, with what it still holds back
abbrev pub bytes_of : Writer (Vec ℕ Global) → List ℕ
bytes_of writer = (writer_under writer).items ++ writer_pending writer

-- it stands between two rows, and writes them in the plain way
pub record IsBetweenRows (writer : Writer (Vec ℕ Global)) : Type 0 where
  pub setup : writer_setup writer ≡ default_writer
  pub fields : fields_written writer ≡ 0
  pub clean : has_written writer ≡ false

-- a row was gathered so far: these fields, and behind them those
pub record Gathers (before : RowWriter) (first : List (List ℕ)) (after : RowWriter) (more : List (List ℕ)) : Type 0 where
  pub writer : after.writer ≡ before.writer
  pub fields : fields_of after.row ≡ first ++ more
  pub partial : partial_of after.row ≡ []

-- these rows were written behind what was there
pub record Writes (before after : RowWriter) (rows : List (List (List ℕ))) : Type 0 where
  pub between : IsBetweenRows after.writer
  pub bytes : bytes_of after.writer ≡ bytes_of before.writer ++ csv_text rows
