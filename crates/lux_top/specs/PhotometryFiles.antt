-- A photometry file: the photometry that it says, in the format that its first bytes tell.
use Rattle.std.specs.Prelude.{◌≡◌, ℕ, ◌||◌, Bool, if◌then◌else◌, List, nat_eq, codes, Result, Ok, Err}
use Rattle.std.specs.List.{starts_with}
use Rattle.eulumdat_reader.specs.Eulumdat.{ldt_of}
use Rattle.lm63_reader.specs.Lm63.{lm_of}
use Rattle.lux_io.specs.Shelves.{ShelfState, IsFile}
use Rattle.photo_web.specs.declared.photometry.Photometry.{Photometry}
use Rattle.lux_answers.specs.declared.answers.Answer.{Answer}
use Rattle.lux_answers.specs.declared.answers.Answer.TheVariants as answer
use Rattle.lux_answers.specs.declared.answers.PhotoFault.{PhotoFault}
use Rattle.lux_answers.specs.declared.answers.PhotoFault.TheVariants.{Lm, Ldt}
use Rattle.lux_plans.specs.Plans.{Plan, file, accept, and_then}

-- a text is LM-63 where it begins with `IESNA` or `IES:`; all others are EULUMDAT
abbrev pub is_lm63 : List ℕ → Bool
is_lm63 text = starts_with nat_eq text (codes "IESNA") || starts_with nat_eq text (codes "IES:")

-- what a reader gives, its fault as one of its format
abbrev pub read_as : {F : Type 0} → (F → PhotoFault) → Result Photometry F → Result Photometry PhotoFault
read_as format (Ok photometry) = Ok photometry
read_as format (Err fault) = Err (format fault)

-- the photometry of a text in its format, or the refusal of the text
unfoldable pub photometry_in : List ℕ → Result Photometry PhotoFault
photometry_in text = if is_lm63 text then read_as Lm (lm_of text) else read_as Ldt (ldt_of text)

-- the answer for the file of a name whose text has this fault
abbrev pub photometry_refusal : List ℕ → PhotoFault → Answer
photometry_refusal name fault = answer.Photometry name fault

-- the photometry of a file's text, or its refusal
abbrev pub photometry_of_text : List ℕ → List ℕ → Plan Photometry
photometry_of_text name text = accept (photometry_in text) (photometry_refusal name)

-- the most bytes of a photometry file: 4 MiB
abbrev pub most_photometry_bytes : ℕ
most_photometry_bytes = 4194304

-- the photometry of a file
abbrev pub photometry_file : List ℕ → Plan Photometry
photometry_file name = and_then (file name most_photometry_bytes) (photometry_of_text name)

-- the file has a text that says this photometry
pub record IsFilePhotometry (shelf : ShelfState) (name : List ℕ) (photometry : Photometry) : Type 0 where
  pub text : List ℕ
  pub is_file : IsFile shelf name most_photometry_bytes text
  pub accepted : photometry_in text ≡ Ok photometry
