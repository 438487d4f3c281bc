-- The report of a run, as lines and as CSV. Both formats are this project's own; how a row of CSV is written is the rule of the
-- crate `csv`.
use Rattle.std.specs.Prelude.{ℕ, ◌*◌, ◌++◌, List, [], ◌∷◌, length, map, sum, slice_index, slice_index_or, codes}
use Rattle.std.specs.Fmt.{decimal}
use Rattle.std.specs.List.{flat_map, range_with_len}
use Rattle.csv.specs.Writing.{row_text, default_writer}
use Rattle.compliance.specs.declared.checks.CheckSpec.{CheckSpec}
use Rattle.compliance.specs.declared.judging.Judged.{Judged}
use Rattle.compliance.specs.declared.verdicts.Verdict.{Verdict}
use Rattle.compliance.specs.declared.verdicts.Verdict.TheVariants.{Pass, Fail, Undecided}
use Rattle.compliance.specs.Worst.{verdicts_of, worst_of, status_of_worst}
use Rattle.flux_ledger.specs.declared.ledger.Ledger.{Ledger}
use Rattle.project_file.specs.Projects.{Project}
use Rattle.lux_report.specs.Facts.{Facts, judged_checks}

-- the word for a verdict
abbrev pub verdict_word : Verdict → List ℕ
verdict_word Pass = codes "pass"
verdict_word Fail = codes "fail"
verdict_word Undecided = codes "open"

-- the limit of a check's average, in millilux as the average itself
abbrev pub average_limit : CheckSpec → ℕ
average_limit check = 1000 * check.average

-- the status of all verdicts
abbrev pub status : Facts → ℕ
status facts = status_of_worst (worst_of (verdicts_of facts.judged))

-- In lines: the two ends of an interval
abbrev pub ends_text : ℕ × ℕ → List ℕ
ends_text ends = codes " low " ++ decimal ends.0 ++ codes " high " ++ decimal ends.1

-- the lines before those of the patches
abbrev pub head_lines : Project → Ledger → Facts → List ℕ
head_lines p l f =
    codes "lux report 1\npatches " ++ decimal (length l.direct) ++ codes "\nluminaires " ++ decimal (length p.fixtures) ++ codes "\nshooters " ++ decimal f.shooters
    ++ codes "\nthreshold " ++ decimal p.threshold ++ codes "\ndirect " ++ decimal (sum l.direct) ++ codes "\nwins " ++ decimal l.wins ++ codes "\nparts "
    ++ decimal l.parts ++ codes "\n"

-- what the ledger has of patch j
abbrev pub accounts_text : Ledger → ℕ → List ℕ
accounts_text l j =
    codes "patch " ++ decimal j ++ codes " direct " ++ decimal (slice_index l.direct j) ++ codes " taken " ++ decimal (slice_index l.taken j)
    ++ codes " residual " ++ decimal (slice_index l.residual j) ++ codes " err " ++ decimal (slice_index l.err j)

-- the line of patch j: what the ledger has of it, and the ends of its flux
abbrev pub patch_line : Ledger → Facts → ℕ → List ℕ
patch_line l f j = accounts_text l j ++ ends_text (slice_index_or f.bounds j (0, 0)) ++ codes "\n"

-- the line of a value that was judged: its ends, its limit, and the verdict
abbrev pub judged_line : List ℕ → ℕ × ℕ → ℕ → Verdict → List ℕ
judged_line value ends limit verdict = value ++ ends_text ends ++ codes " limit " ++ decimal limit ++ codes " " ++ verdict_word verdict ++ codes "\n"

-- the line of point g, in nanolux
abbrev pub point_line : List (ℕ × ℕ) → ℕ → List ℕ
point_line points g = codes "point " ++ decimal g ++ ends_text (slice_index_or points g (0, 0)) ++ codes "\n"

-- a line for each point of a check
abbrev pub point_lines : List (ℕ × ℕ) → List ℕ
point_lines points = flat_map (point_line points) (range_with_len 0 (length points))

-- the line with the name of a check and how many points it has
abbrev pub name_line : CheckSpec → ℕ → List ℕ
name_line check points = codes "check " ++ check.name ++ codes " points " ++ decimal points ++ codes "\n"

-- the lines of a check: its name, its average in millilux, its uniformity in per mille, and its points
abbrev pub check_lines : CheckSpec → List (ℕ × ℕ) → Judged → List ℕ
check_lines check points judged =
    name_line check (length points)
    ++ judged_line (codes "average") judged.average (average_limit check) judged.average_verdict
    ++ judged_line (codes "uniformity") judged.uniformity check.uniformity judged.uniformity_verdict
    ++ point_lines points

-- a line for each patch
abbrev pub patch_lines : Ledger → Facts → List ℕ
patch_lines l f = flat_map (patch_line l f) (range_with_len 0 (length l.direct))

-- the lines of each check
abbrev pub all_check_lines : Project → Facts → List ℕ
all_check_lines p f = flat_map (λ c. check_lines c.0 c.1.0 c.1.1) (judged_checks p f)

-- the last line
abbrev pub status_line : Facts → List ℕ
status_line f = codes "status " ++ decimal (status f) ++ codes "\n"

-- the whole text
abbrev pub report_text : Project → Ledger → Facts → List ℕ
report_text p l f = head_lines p l f ++ patch_lines l f ++ all_check_lines p f ++ status_line f

-- In rows: what a row is of, a name, an index, three values and a verdict
abbrev pub row : List ℕ → List ℕ → ℕ → List ℕ → List ℕ → List ℕ → List ℕ → List (List ℕ)
row kind name index a b c verdict = kind ∷ name ∷ decimal index ∷ a ∷ b ∷ c ∷ verdict ∷ []

-- the names of these fields
abbrev pub header_row : List (List ℕ)
header_row = codes "row" ∷ codes "name" ∷ codes "index" ∷ codes "a" ∷ codes "b" ∷ codes "c" ∷ codes "verdict" ∷ []

-- all patches together: their direct flux, and the wins and the parts of the ledger
abbrev pub total_row : Ledger → List (List ℕ)
total_row l = row (codes "total") [] 0 (decimal (sum l.direct)) (decimal l.wins) (decimal l.parts) []

-- patch j: its direct, taken and residual flux; and its fractions and the ends of its flux
abbrev pub patch_rows : Ledger → Facts → ℕ → List (List (List ℕ))
patch_rows l f j =
    row (codes "patch") [] j (decimal (slice_index l.direct j)) (decimal (slice_index l.taken j)) (decimal (slice_index l.residual j)) []
    ∷ row (codes "bounds") [] j (decimal (slice_index l.err j)) (decimal (slice_index_or f.bounds j (0, 0)).0) (decimal (slice_index_or f.bounds j (0, 0)).1) []
    ∷ []

-- the average of a check, its ends, its limit and its verdict; and the same of its uniformity
abbrev pub average_row : CheckSpec → Judged → List (List ℕ)
average_row check judged =
    row (codes "average") check.name 0 (decimal judged.average.0) (decimal judged.average.1) (decimal (average_limit check)) (verdict_word judged.average_verdict)

abbrev pub uniformity_row : CheckSpec → Judged → List (List ℕ)
uniformity_row check judged =
    row (codes "uniformity") check.name 0 (decimal judged.uniformity.0) (decimal judged.uniformity.1) (decimal check.uniformity) (verdict_word judged.uniformity_verdict)

-- point g of a check of this name: its ends
abbrev pub point_row : List ℕ → List (ℕ × ℕ) → ℕ → List (List ℕ)
point_row name points g = row (codes "point") name g (decimal (slice_index_or points g (0, 0)).0) (decimal (slice_index_or points g (0, 0)).1) [] []

-- a row for each point
abbrev pub point_rows : List ℕ → List (ℕ × ℕ) → List (List (List ℕ))
point_rows name points = map (point_row name points) (range_with_len 0 (length points))

-- the rows of a check
abbrev pub check_rows : CheckSpec → List (ℕ × ℕ) → Judged → List (List (List ℕ))
check_rows check points judged = average_row check judged ∷ uniformity_row check judged ∷ point_rows check.name points

-- the rows of each patch
abbrev pub all_patch_rows : Ledger → Facts → List (List (List ℕ))
all_patch_rows l f = flat_map (patch_rows l f) (range_with_len 0 (length l.direct))

-- the rows of each check
abbrev pub all_check_rows : Project → Facts → List (List (List ℕ))
all_check_rows p f = flat_map (λ c. check_rows c.0 c.1.0 c.1.1) (judged_checks p f)

-- the status
abbrev pub status_row : Facts → List (List ℕ)
status_row f = row (codes "status") [] 0 (decimal (status f)) [] [] []

-- all rows
abbrev pub report_rows : Project → Ledger → Facts → List (List (List ℕ))
report_rows p l f = (header_row ∷ total_row l ∷ []) ++ all_patch_rows l f ++ all_check_rows p f ++ status_row f ∷ []

-- a row as CSV, with its line end
unfoldable pub csv_line : List (List ℕ) → List ℕ
csv_line fields = row_text default_writer fields

-- some rows as CSV
abbrev pub csv_text : List (List (List ℕ)) → List ℕ
csv_text rows = flat_map csv_line rows

-- the whole report as CSV
abbrev pub report_csv : Project → Ledger → Facts → List ℕ
report_csv p l f = csv_text (report_rows p l f)
