-- The note of each answer: one line for standard error. The words are this project's own. A new answer or fault adds a line.
use Rattle.std.specs.Prelude.{◌⊎◌, ℕ, List, [], ◌++◌, codes}
use Rattle.std.specs.Fmt.{decimal}
use Rattle.eulumdat_reader.specs.declared.faults.LdtFault.{LdtFault}
use Rattle.eulumdat_reader.specs.declared.faults.LdtFault.TheVariants as ldt
use Rattle.fixtures.specs.declared.faults.FixtureFault.{FixtureFault}
use Rattle.fixtures.specs.declared.faults.FixtureFault.TheVariants as fixture
use Rattle.flux_system.specs.declared.faults.LimitFault.{LimitFault}
use Rattle.flux_system.specs.declared.faults.LimitFault.TheVariants.{FluxTooLarge, TooManyTakes}
use Rattle.grids.specs.declared.faults.GridFault.{GridFault}
use Rattle.grids.specs.declared.faults.GridFault.TheVariants as grid
use Rattle.ledger_audit.specs.declared.findings.Finding.{Finding}
use Rattle.ledger_audit.specs.declared.findings.Finding.TheVariants as audit
use Rattle.ledger_file.specs.declared.faults.LedgerFault.{LedgerFault}
use Rattle.ledger_file.specs.declared.faults.LedgerFault.TheVariants as ledgers
use Rattle.lm63_reader.specs.declared.faults.LmFault.{LmFault}
use Rattle.lm63_reader.specs.declared.faults.LmFault.TheVariants as lm
use Rattle.lux_io.specs.Sinks.{SinkState, Wrote, WroteSome}
use Rattle.lux_num.specs.declared.decimal.NumFault.{NumFault}
use Rattle.lux_num.specs.declared.decimal.NumFault.TheVariants as number
use Rattle.project_file.specs.declared.faults.ProjFault.{ProjFault}
use Rattle.project_file.specs.declared.faults.ProjFault.TheVariants as project
use Rattle.room_patches.specs.declared.faults.RoomFault.{RoomFault}
use Rattle.room_patches.specs.declared.faults.RoomFault.TheVariants as room
use Rattle.system_file.specs.declared.faults.SysFault.{SysFault}
use Rattle.system_file.specs.declared.faults.SysFault.TheVariants as system
use Rattle.lux_answers.specs.declared.answers.Answer.{Answer}
use Rattle.lux_answers.specs.declared.answers.PhotoFault.{PhotoFault}
use Rattle.lux_answers.specs.declared.answers.PhotoFault.TheVariants.{Lm, Ldt}
use Rattle.lux_answers.specs.declared.answers.Answer.TheVariants.{Done, Usage, Read, TooLong, Project, Room, Fixture, Grid, System, LedgerText, Photometry, AuditNo, Limits, Write, Memory}

-- a fault's name in lower case, and its numbers
abbrev pub system_note : SysFault → List ℕ
system_note system.Header = codes "header"
system_note system.Short = codes "short"
system_note (system.Number line) = codes "number " ++ decimal line
system_note (system.Trailing line) = codes "trailing " ++ decimal line
system_note (system.Size n) = codes "size " ++ decimal n
system_note system.Threshold = codes "threshold"
system_note (system.Reflectance patch) = codes "reflectance " ++ decimal patch
system_note (system.RowTotal patch) = codes "row total " ++ decimal patch
system_note system.Memory = codes "memory"

abbrev pub ledger_note : LedgerFault → List ℕ
ledger_note ledgers.Header = codes "header"
ledger_note ledgers.Short = codes "short"
ledger_note (ledgers.Number line) = codes "number " ++ decimal line
ledger_note (ledgers.Trailing line) = codes "trailing " ++ decimal line
ledger_note (ledgers.Size n) = codes "size " ++ decimal n
ledger_note ledgers.Memory = codes "memory"

-- what an audit found, and the numbers that it kept of it
abbrev pub finding_note : Finding → List ℕ
finding_note audit.Balanced = codes "balanced"
finding_note (audit.Size left right) = codes "size " ++ decimal left ++ codes " " ++ decimal right
finding_note (audit.Direct patch left right) = codes "direct " ++ decimal patch ++ codes " " ++ decimal left ++ codes " " ++ decimal right
finding_note (audit.Err patch value) = codes "err " ++ decimal patch ++ codes " " ++ decimal value
finding_note (audit.Residual patch value) = codes "residual " ++ decimal patch ++ codes " " ++ decimal value
finding_note (audit.Unbalanced patch left right) = codes "unbalanced " ++ decimal patch ++ codes " " ++ decimal left ++ codes " " ++ decimal right
finding_note (audit.Wins wins limit) = codes "wins " ++ decimal wins ++ codes " " ++ decimal limit
finding_note (audit.Bounds patch low high) = codes "bounds " ++ decimal patch ++ codes " " ++ decimal low ++ codes " " ++ decimal high

abbrev pub project_note : ProjFault → List ℕ
project_note project.Toml = codes "toml"
project_note project.Version = codes "version"
project_note (project.Key name) = codes "key " ++ name
project_note (project.Missing name) = codes "missing " ++ name
project_note (project.Kind name) = codes "kind " ++ name
project_note (project.Range name) = codes "range " ++ name
project_note project.Memory = codes "memory"

abbrev pub room_note : RoomFault → List ℕ
room_note room.Size = codes "size"
room_note room.Counts = codes "counts"
room_note (room.Patches n) = codes "patches " ++ decimal n
room_note room.Reflectance = codes "reflectance"
room_note (room.Region at) = codes "region " ++ decimal at
room_note room.Memory = codes "memory"

abbrev pub fixture_note : FixtureFault → List ℕ
fixture_note (fixture.Outside at) = codes "outside " ++ decimal at
fixture_note (fixture.Rotation at) = codes "rotation " ++ decimal at
fixture_note (fixture.Level at) = codes "level " ++ decimal at
fixture_note fixture.Memory = codes "memory"

abbrev pub grid_note : GridFault → List ℕ
grid_note grid.Rectangle = codes "rectangle"
grid_note grid.Counts = codes "counts"
grid_note (grid.TooNear point patch) = codes "too near " ++ decimal point ++ codes " " ++ decimal patch
grid_note grid.Memory = codes "memory"

abbrev pub number_note : NumFault → List ℕ
number_note (number.BadByte at) = codes "bad byte " ++ decimal at
number_note number.Empty = codes "empty"
number_note number.TooManyDigits = codes "too many digits"
number_note number.Exponent = codes "exponent"

abbrev pub lm_note : LmFault → List ℕ
lm_note lm.Header = codes "header"
lm_note lm.Tilt = codes "tilt"
lm_note lm.TiltFile = codes "tilt file"
lm_note (lm.Number line fault) = codes "number " ++ decimal line ++ codes " " ++ number_note fault
lm_note (lm.Short found) = codes "short " ++ decimal found
lm_note lm.PhotometricType = codes "photometric type"
lm_note lm.Units = codes "units"
lm_note (lm.Count field) = codes "count " ++ decimal field
lm_note (lm.Factor field) = codes "factor " ++ decimal field
lm_note (lm.Angles list at) = codes "angles " ++ decimal list ++ codes " " ++ decimal at
lm_note lm.HorizontalSpan = codes "horizontal span"
lm_note (lm.NegativeIntensity at) = codes "negative intensity " ++ decimal at
lm_note (lm.TooBright at) = codes "too bright " ++ decimal at
lm_note (lm.Trailing line) = codes "trailing " ++ decimal line
lm_note lm.Memory = codes "memory"

abbrev pub ldt_note : LdtFault → List ℕ
ldt_note (ldt.Short line) = codes "short " ++ decimal line
ldt_note (ldt.Number line fault) = codes "number " ++ decimal line ++ codes " " ++ number_note fault
ldt_note ldt.Symmetry = codes "symmetry"
ldt_note ldt.PlaneCount = codes "plane count"
ldt_note ldt.GammaCount = codes "gamma count"
ldt_note (ldt.Factor line) = codes "factor " ++ decimal line
ldt_note (ldt.LampSets n) = codes "lamp sets " ++ decimal n
ldt_note (ldt.Angles list at) = codes "angles " ++ decimal list ++ codes " " ++ decimal at
ldt_note ldt.Span = codes "span"
ldt_note (ldt.NegativeIntensity at) = codes "negative intensity " ++ decimal at
ldt_note (ldt.TooBright at) = codes "too bright " ++ decimal at
ldt_note (ldt.Trailing line) = codes "trailing " ++ decimal line
ldt_note ldt.Memory = codes "memory"

-- the fault of a photometry file, in the words of its format
abbrev pub photometry_note : PhotoFault → List ℕ
photometry_note (Lm fault) = lm_note fault
photometry_note (Ldt fault) = ldt_note fault

abbrev pub limit_note : LimitFault → List ℕ
limit_note (FluxTooLarge sum) = codes "flux too large " ++ decimal sum
limit_note (TooManyTakes bound) = codes "too many takes " ++ decimal bound

abbrev pub answer_note : Answer → List ℕ
answer_note (Done ledger worst) = []
answer_note Usage = codes "usage: lux solve FILE | photo FILE | run PROJECT [--shooters N] [--csv] | audit SYSTEM LEDGER | gen NUMBER"
answer_note (Read name) = codes "cannot read " ++ name
answer_note (TooLong name) = codes "file too long: " ++ name
answer_note (Project fault) = codes "project: " ++ project_note fault
answer_note (Room fault) = codes "room: " ++ room_note fault
answer_note (Fixture fault) = codes "luminaire: " ++ fixture_note fault
answer_note (Grid check fault) = codes "check " ++ decimal check ++ codes ": " ++ grid_note fault
answer_note (System fault) = codes "system: " ++ system_note fault
answer_note (LedgerText fault) = codes "ledger: " ++ ledger_note fault
answer_note (Photometry name fault) = codes "photometry " ++ name ++ codes ": " ++ photometry_note fault
answer_note (AuditNo finding) = codes "audit: " ++ finding_note finding
answer_note (Limits fault) = codes "limit: " ++ limit_note fault
answer_note Write = codes "cannot write"
answer_note Memory = codes "out of memory"

-- the line that the notes get
abbrev pub note : Answer → List ℕ
note answer = codes "lux: " ++ answer_note answer ++ codes "\n"

-- the answer's line was put to the notes, or a part from its front where the notes had a fault
abbrev pub PutsNote : Answer → SinkState → SinkState → Type 0
PutsNote answer before after = Wrote before after (note answer) ⊎ WroteSome before after (note answer)
