-- What a patch keeps is the most of what it takes.
use Rattle.std.proofs.Common.{◌≡◌, ℕ, ◌+◌, ◌-◌, ◌*◌, ◌<◌, ◌≤◌, List, length, get_or, ◌∙◌, ap, sym, arith}
use Rattle.std.specs.Prelude.{slice_index}
use Rattle.std.proofs.lemmas.List.FromFn.{length-map-range_with_len, get_or-map-range_with_len}
use Rattle.std.proofs.lemmas.Nat.{mul-le}
use Rattle.flux_system.specs.Sums.{least_below}
use Rattle.flux_system.specs.System.{FluxSystem, scale, patches, share, row_total, coefficient, passed_part, keep, kept_parts, least_keep}
use Rattle.flux_system.specs.Validity.{IsSystem}
use Rattle.flux_system.proofs.Sums.{sum-scale, least-same, least-le, least-above}

pub passed_part-is : (s : FluxSystem) (i : ℕ) → passed_part s i ≡ slice_index s.reflectance i * row_total s i
unfolding coefficient
passed_part-is s i = sum-scale (patches s) (slice_index s.reflectance i) (share s i)

-- what a patch keeps, by its reflectance and the total of its row
pub kept-is : (s : FluxSystem) (i r t : ℕ) → r ≡ slice_index s.reflectance i → t ≡ row_total s i → scale - r * t ≡ keep s i
kept-is s i r t r_is t_is = (λ k. scale - r_is k * t_is k) ∙ ap (λ (x : ℕ). scale - x) (sym (passed_part-is s i))

pub passed_part-lt : (s : FluxSystem) → IsSystem s → (i : ℕ) → i < patches s → passed_part s i + 50000000000 < scale
passed_part-lt s valid i h =
    let is = passed_part-is s i in
    let a = valid.reflectances i h in
    let b = valid.rows i h in
    let m = mul-le (slice_index s.reflectance i) (row_total s i) 950 999999999 a (omega arith) in
    omega arith

-- each patch keeps a twentieth and more
pub keep-above : (s : FluxSystem) → IsSystem s → (i : ℕ) → i < patches s → 50000000000 < keep s i
keep-above s valid i h = let lt = passed_part-lt s valid i h in omega arith

pub least_keep-above : (s : FluxSystem) → IsSystem s → 50000000000 < least_keep s
least_keep-above s valid = let some = valid.some in least-above (patches s) (keep s) 50000000000 (keep-above s valid 0 (omega arith)) (keep-above s valid)

pub least_keep-le : (s : FluxSystem) (i : ℕ) → i < patches s → least_keep s ≤ keep s i
least_keep-le s i h = least-le (patches s) (keep s) i h

-- what each patch of a system keeps
pub length-kept : (s : FluxSystem) (kept : List ℕ) → kept ≡ kept_parts s → length kept ≡ patches s
length-kept s kept is = ap length is ∙ length-map-range_with_len (keep s) 0 (patches s)

pub kept-at : (s : FluxSystem) (kept : List ℕ) → kept ≡ kept_parts s → (i : ℕ) → i < patches s → get_or kept i 0 ≡ keep s i
kept-at s kept is i h = ap (λ (xs : List ℕ). get_or xs i 0) is ∙ get_or-map-range_with_len (keep s) 0 (patches s) i i 0 h (omega arith)

pub least-kept : (s : FluxSystem) (kept : List ℕ) → IsSystem s → kept ≡ kept_parts s → least_below (length kept) (slice_index kept) ≡ least_keep s
least-kept s kept valid is =
    let some = valid.some in
    ap (λ (n : ℕ). least_below n (slice_index kept)) (length-kept s kept is)
    ∙ least-same (patches s) (slice_index kept) (keep s) (kept-at s kept is 0 (omega arith)) (kept-at s kept is)
