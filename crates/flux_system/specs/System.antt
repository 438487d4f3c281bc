-- A flux system: patches that pass flux on to one another, in whole numbers
-- (the discrete radiosity equation of Cohen, Chen, Wallace and Greenberg 1988).
use Rattle.std.specs.Prelude.{ℕ, ◌+◌, ◌-◌, ◌*◌, ◌/◌, List, map, length, slice_index, sum}
use Rattle.std.specs.List.{range_with_len}
use Rattle.flux_system.specs.Sums.{sum_below, least_below}

-- a threshold in nanolumens, a reflectance for each patch in per mille, and the shares row after row, in parts of 10^9:
-- row i says how the flux that leaves patch i falls on all patches
pub record FluxSystem : Type 0 where
  pub threshold : ℕ
  pub reflectance : List ℕ
  pub shares : List ℕ

-- what one nanolumen is counted in: a reflectance times a share is so many parts of it
abbrev pub scale : ℕ
scale = 1000000000000

abbrev pub patches : FluxSystem → ℕ
patches s = length s.reflectance

-- the share of patch i's flux that falls on patch j
abbrev pub share : FluxSystem → ℕ → ℕ → ℕ
share s i j = slice_index s.shares (i * patches s + j)

-- row i of the shares
abbrev pub share_row : FluxSystem → ℕ → List ℕ
share_row s i = map (share s i) (range_with_len 0 (patches s))

-- the sum of row i of the shares
abbrev pub row_total : FluxSystem → ℕ → ℕ
row_total s i = sum_below (patches s) (share s i)

-- what patch i passes on to patch j of one nanolumen that it takes
unfoldable pub coefficient : FluxSystem → ℕ → ℕ → ℕ
coefficient s i j = slice_index s.reflectance i * share s i j

-- what patch i passes on to all patches of one nanolumen that it takes
abbrev pub passed_part : FluxSystem → ℕ → ℕ
passed_part s i = sum_below (patches s) (coefficient s i)

-- what patch i keeps of one nanolumen that it takes
abbrev pub keep : FluxSystem → ℕ → ℕ
keep s i = scale - passed_part s i

-- what each patch keeps
abbrev pub kept_parts : FluxSystem → List ℕ
kept_parts s = map (keep s) (range_with_len 0 (patches s))

-- the least that a patch keeps
abbrev pub least_keep : FluxSystem → ℕ
least_keep s = least_below (patches s) (keep s)

-- how often a flux of at least the threshold can be taken at most: each take leaves with a patch no less than it keeps
abbrev pub bound_of_takes : FluxSystem → List ℕ → ℕ
bound_of_takes s direct = scale * sum direct / (s.threshold * least_keep s)
