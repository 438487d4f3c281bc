-- What doesn't count at the ends of a text or of a line. These are this project's own rules.
use Rattle.std.specs.Prelude.{ℕ, ◌-◌, ◌==◌, ◌||◌, Bool, if◌then◌else◌, List, take, drop, length, slice_index}
use Rattle.std.specs.List.{prefix_len, suffix_len}

-- blank and tab
abbrev pub is_space : ℕ → Bool
is_space byte = byte == 32 || byte == 9

-- blank, tab, CR and LF
abbrev pub is_ending : ℕ → Bool
is_ending byte = byte == 32 || byte == 9 || byte == 13 || byte == 10

-- without the bytes at the end that pass a test
abbrev pub without_suffix : (ℕ → Bool) → List ℕ → List ℕ
without_suffix test text = take (length text - suffix_len test text) text

-- without blanks and tabs at both ends
abbrev pub without_spaces : List ℕ → List ℕ
without_spaces text = without_suffix is_space (drop (prefix_len is_space text) text)

-- without one byte 0x1A, which older systems wrote at the end of a file, where it is last
abbrev pub without_mark : List ℕ → List ℕ
without_mark text = if slice_index text (length text - 1) == 26 then take (length text - 1) text else text

-- what is read of a file: without blanks, tabs, CR and LF at its end, then without the mark, then without these once more
unfoldable pub body : List ℕ → List ℕ
body text = without_suffix is_ending (without_mark (without_suffix is_ending text))
