-- What `clap` is given to read. No contract of a public call speaks of it.
use Rattle.std.specs.Prelude.{ℕ, ◌||◌, Bool, List}
use Rattle.lux_words.specs.Words.{is_among, is_operand}
use Rattle.run_words.specs.RunWords.{run_options}

-- a word that may stand behind the keyword: the flag, the option, or an operand
abbrev pub is_readable : List ℕ → Bool
is_readable word = is_among run_options.flags word || is_among run_options.settings word || is_operand word
