-- A row of the system text: a keyword and some numerals, one line.
use Rattle.std.specs.Prelude.{ℕ, ◌+◌, ◌==◌, ◌&&◌, nat_lt, Bool, if◌then◌else◌, List, length, map, drop, Some}
use Rattle.std.specs.List.{list_all}
use Rattle.std.specs.Str.{bytes_eq}
use Rattle.duties.specs.Duties.{Duty, unless}
use Rattle.lux_lines.specs.Lines.{lines, line_text}
use Rattle.lux_lines.specs.Words.{words, word_at}
use Rattle.lux_lines.specs.Numerals.{is_numeral, numeral_value}
use Rattle.system_file.specs.declared.faults.SysFault.{SysFault}
use Rattle.system_file.specs.declared.faults.SysFault.TheVariants.{Short, Number}

-- the keyword and so many numerals
abbrev pub is_row : List ℕ → ℕ → List ℕ → Bool
is_row keyword count line =
    (length (words line) == count + 1) && bytes_eq (word_at (words line) 0) keyword && list_all is_numeral (drop 1 (words line))

-- the numbers behind the keyword
unfoldable pub numbers : List ℕ → List ℕ
numbers line = map numeral_value (drop 1 (words line))

-- line k of the text, counted from 0, is there and is such a row
unfoldable pub line_duty : List ℕ → ℕ → List ℕ → ℕ → Duty SysFault
line_duty text k keyword count =
    if nat_lt k (length (lines text)) then unless (is_row keyword count (line_text text k)) (Number (k + 1)) else Some Short
