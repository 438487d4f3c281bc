-- The system text: the tests of its lines in their order, the first that fails is the refusal. The format is this project's own.
use Rattle.std.specs.Prelude.{ℕ, ◌+◌, ◌&&◌, nat_le, List, [], ◌∷◌, ◌++◌, length, slice_index, codes, Result}
use Rattle.std.specs.List.{range_with_len, flat_map}
use Rattle.std.specs.Option.{option_map}
use Rattle.std.specs.Str.{bytes_eq}
use Rattle.duties.specs.Duties.{Duty, unless, first, each, judged}
use Rattle.system_file.specs.declared.TheConstants.{MOST_LISTED_PATCHES}
use Rattle.flux_system.specs.declared.faults.SystemFault.{SystemFault}
use Rattle.flux_system.specs.declared.faults.SystemFault.TheVariants as system
use Rattle.flux_system.specs.System.{FluxSystem}
use Rattle.flux_system.specs.Validity.{system_duties}
use Rattle.lux_lines.specs.Lines.{lines, line_text}
use Rattle.system_file.specs.declared.faults.SysFault.{SysFault}
use Rattle.system_file.specs.declared.faults.SysFault.TheVariants.{Header, Trailing, Size, Threshold, Reflectance, RowTotal, Memory}
use Rattle.system_file.specs.Rows.{numbers, line_duty}

-- what line 2 says of the number of patches, 0 where it says nothing
abbrev pub patch_count : List ℕ → ℕ
patch_count text = slice_index (numbers (line_text text 1)) 0

-- the shares that line 6 and those behind it say, a line for each patch
abbrev pub shares_in : List ℕ → ℕ → List ℕ
shares_in text n = flat_map (λ i. numbers (line_text text (5 + i))) (range_with_len 0 n)

-- the flux system that the lines say
abbrev pub system_in : List ℕ → FluxSystem
system_in text = record {
  threshold = slice_index (numbers (line_text text 2)) 0;
  reflectance = numbers (line_text text 4);
  shares = shares_in text (patch_count text);
}

-- the direct flux that line 4 says
abbrev pub direct_in : List ℕ → List ℕ
direct_in text = numbers (line_text text 3)

-- a refusal of a flux system as one of its text
abbrev pub of_system : SystemFault → SysFault
of_system (system.Size n) = Size n
of_system system.Threshold = Threshold
of_system (system.Reflectance patch) = Reflectance patch
of_system (system.RowTotal patch) = RowTotal patch
of_system system.Memory = Memory

-- the first three lines: header, number of patches, threshold
unfoldable pub head_duties : List ℕ → List (Duty SysFault)
head_duties text =
    unless (bytes_eq (line_text text 0) (codes "lux-system 1")) Header
    ∷ line_duty text 1 (codes "patches") 1
    ∷ unless (nat_le 1 (patch_count text) && nat_le (patch_count text) MOST_LISTED_PATCHES) (Size (patch_count text))
    ∷ line_duty text 2 (codes "threshold") 1
    ∷ []

-- the lines behind them: direct flux, reflectances, a row of shares for each patch, and no more
unfoldable pub list_duties : List ℕ → ℕ → List (Duty SysFault)
list_duties text n =
    line_duty text 3 (codes "direct") n
    ∷ line_duty text 4 (codes "reflectance") n
    ∷ each n (λ i. line_duty text (5 + i) (codes "shares") n)
    ∷ unless (nat_le (length (lines text)) (5 + n)) (Trailing (6 + n))
    ∷ []

-- all lines, and then the numbers as a flux system
unfoldable pub text_duties : List ℕ → List (Duty SysFault)
text_duties text = head_duties text ++ (list_duties text (patch_count text) ++ option_map of_system (first (system_duties (system_in text))) ∷ [])

-- the flux system and the direct flux of a text, or its refusal
abbrev pub system_of : List ℕ → Result (FluxSystem × List ℕ) SysFault
system_of text = judged (text_duties text) (system_in text, direct_in text)
