-- What one read says of the reads to come.
use Rattle.std.specs.Prelude.{ℕ, ◌==◌, Bool, true, false, Result, Ok, Err}
use Rattle.lux.specs.declared.counted_readers.ReadFault.{ReadFault}
use Rattle.lux.specs.declared.counted_readers.ReadFault.TheVariants.{Interrupted, Failed}

-- how many bytes a read took
abbrev pub size_of_read : Result ℕ ReadFault → ℕ
size_of_read (Ok count) = count
size_of_read (Err _) = 0

-- a read is the last one where it gave no byte, unless a signal stopped it
abbrev pub ends_reading : Result ℕ ReadFault → Bool
ends_reading (Ok count) = count == 0
ends_reading (Err Interrupted) = false
ends_reading (Err Failed) = true
