-- What a shelf in memory does exactly.
use Rattle.std.specs.Prelude.{◌≡◌, ℕ, ◌==◌, Bool, if◌then◌else◌, nat_le, List, length, map, Option, Some, None, Result, Ok, Err, Vec}
use Rattle.std.specs.List.{list_any}
use Rattle.std.specs.Map.{lookup}
use Rattle.std.specs.Str.{bytes_eq}
use Rattle.std.specs.declared.alloc.Global.{Global}
use Rattle.lux_io.specs.declared.blames.Count.TheVariants.{Faults, Overlong}
use Rattle.lux_io.specs.declared.shelves.ShelfFault.{ShelfFault}
use Rattle.lux_io.specs.declared.shelves.ShelfFault.TheVariants.{Failed, TooLong, Memory}
use Rattle.lux_io.specs.Shelves.{Blamed, ShelfState, next_count}

-- the files by name and bytes, the numbers of the reads that fail, the number of the next read, both counts and the blame
pub record MemShelfState : Type 0 where
  pub files : List (List ℕ × List ℕ)
  pub failing : List ℕ
  pub reads : ℕ
  pub faults : ℕ
  pub overlong : ℕ
  pub blame : Option Blamed

-- the bytes of the first file of this name
abbrev pub file_of : List (List ℕ × List ℕ) → List ℕ → Option (List ℕ)
file_of files name = lookup (λ kept. bytes_eq kept name) files

-- the files that the code keeps, by name and bytes
abbrev pub contents_of : List (List ℕ × Vec ℕ Global) → List (List ℕ × List ℕ)
contents_of files = map (λ file. (file.0, file.1.items)) files

-- it tells its files
abbrev pub state_of : MemShelfState → ShelfState
state_of shelf = record { files = Some (file_of shelf.files); faults = shelf.faults; overlong = shelf.overlong; blame = shelf.blame }

-- the number of the next read is listed
abbrev pub fails_next : MemShelfState → Bool
fails_next shelf = list_any (λ number. number == shelf.reads) shelf.failing

-- the fault of reading what was found under a name, in the order of the tests
abbrev pub fault_at : ℕ → Option (List ℕ) → Option ShelfFault
fault_at limit None = Some Failed
fault_at limit (Some bytes) = if nat_le (length bytes) limit then None else Some TooLong

-- the fault of the next read, want of memory aside: it is listed, or the shelf holds no such file, or the file is too long
abbrev pub fault_of : MemShelfState → List ℕ → ℕ → Option ShelfFault
fault_of shelf name limit = if fails_next shelf then Some Failed else fault_at limit (file_of shelf.files name)

-- the shelf with this read counted
abbrev pub after_read : MemShelfState → MemShelfState
after_read shelf = record shelf { reads = next_count shelf.reads }

-- the read has that fault, or it has none and gives the bytes or finds no memory; its own count alone rises, by one
abbrev pub ReadsExactly : {T : Type 0} → MemShelfState → List ℕ → ℕ → MemShelfState → Result T ShelfFault → Type 0
ReadsExactly old name limit new (Ok _) = (fault_of old name limit ≡ None) × (new ≡ after_read old)
ReadsExactly old name limit new (Err Failed) =
    (fault_of old name limit ≡ Some Failed)
    × (new ≡ record (after_read old) { faults = next_count old.faults; blame = Some (record { count = Faults; name = name; limit = limit }) })
ReadsExactly old name limit new (Err TooLong) =
    (fault_of old name limit ≡ Some TooLong)
    × (new ≡ record (after_read old) { overlong = next_count old.overlong; blame = Some (record { count = Overlong; name = name; limit = limit }) })
ReadsExactly old name limit new (Err Memory) = (fault_of old name limit ≡ None) × (new ≡ after_read old)
