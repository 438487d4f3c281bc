-- What a shelf holds and counts, and what one read does to it.
use Rattle.std.specs.Prelude.{◌≡◌, ℕ, ◌+◌, ◌-◌, ◌^◌, ◌≤◌, ◌<◌, min, max, List, length, Option, Some, Result, Ok, Err, IfSome, IsSomeAnd}
use Rattle.lux_io.specs.declared.blames.Count.{Count}
use Rattle.lux_io.specs.declared.blames.Count.TheVariants.{Faults, Overlong}
use Rattle.lux_io.specs.declared.shelves.ShelfFault.{ShelfFault}
use Rattle.lux_io.specs.declared.shelves.ShelfFault.TheVariants.{Failed, TooLong, Memory}

-- a read that gave no bytes: the count that it raised, its name and its limit
pub record Blamed : Type 0 where
  pub count : Count
  pub name : List ℕ
  pub limit : ℕ

-- the bytes of each file, in a shelf that tells them; how many reads failed, how many files were too long; and what raised one of these counts last
pub record ShelfState : Type 0 where
  pub files : Option (List ℕ → Option (List ℕ))
  pub faults : ℕ
  pub overlong : ℕ
  pub blame : Option Blamed

-- one more, up to the last value of a count
abbrev pub next_count : ℕ → ℕ
next_count count = min (count + 1) (2 ^ 64 - 1)

-- a count has risen, or stands at its last value; it never falls
abbrev pub Rose : ℕ → ℕ → Type 0
Rose before now = max before (next_count before) ≤ now

-- the bytes are at most so many, and where the shelf tells its files, they are those of the file
pub record IsFile (shelf : ShelfState) (name : List ℕ) (limit : ℕ) (bytes : List ℕ) : Type 0 where
  pub told : IfSome shelf.files (λ files. files name ≡ Some bytes)
  pub short : length bytes ≤ limit

-- where the shelf tells its files, the file has more bytes than the limit
abbrev pub IsOverlong : ShelfState → List ℕ → ℕ → Type 0
IsOverlong shelf name limit = IfSome shelf.files (λ files. IsSomeAnd (files name) (λ bytes. limit < length bytes))

-- this read raised the count of failed reads and is blamed, and nothing else changed
pub record Fails (before after : ShelfState) (name : List ℕ) (limit : ℕ) : Type 0 where
  pub rose : Rose before.faults after.faults
  pub same : after ≡ record before { faults = after.faults; blame = Some (record { count = Faults; name = name; limit = limit }) }

-- this read raised the count of files that are too long and is blamed, and nothing else changed; the file is too long
pub record FindsOverlong (before after : ShelfState) (name : List ℕ) (limit : ℕ) : Type 0 where
  pub rose : Rose before.overlong after.overlong
  pub same : after ≡ record before { overlong = after.overlong; blame = Some (record { count = Overlong; name = name; limit = limit }) }
  pub overlong : IsOverlong before name limit

-- what a read may do, by its answer: only Ok changes the bytes of the caller, and only a failed read the shelf
abbrev pub Reads : {T : Type 0} → ShelfState → ShelfState → List ℕ → ℕ → List ℕ → List ℕ → Result T ShelfFault → Type 0
Reads before after name limit old new (Ok _) = (after ≡ before) × IsFile before name limit new
Reads before after name limit old new (Err Failed) = Fails before after name limit × (new ≡ old)
Reads before after name limit old new (Err TooLong) = FindsOverlong before after name limit × (new ≡ old)
Reads before after name limit old new (Err Memory) = (after ≡ before) × (new ≡ old)
