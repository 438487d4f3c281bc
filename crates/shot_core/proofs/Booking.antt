-- What a shot passes on by the entries of a row, one after another.
use Rattle.std.proofs.Common.{◌≡◌, ◌≢◌, ℕ, ◌+◌, ◌*◌, ◌/◌, ◌%◌, ◌<◌, ◌≤◌, cond, eqb, List, length, get_or, set, drop, sym, ap, subst, ◌∙◌, arith, length-set, get_or-set_same, get_or-set_other}
use Rattle.std.proofs.lemmas.Bool.{cond-true, cond-false, eq-eqb, ne_eqb}
use Rattle.std.proofs.lemmas.List.{at_drop_more, at_drop_all}
use Rattle.std.proofs.lemmas.List.Sums.{sum_by-cons}
use Rattle.std.proofs.lemmas.Nat.{mul-le}
use mathlib.Core.Logic.{dite}
use native.Mathlib.Decide.{ℕ_discrete}
use Rattle.flux_system.specs.declared.entries.Entry.{Entry}
use Rattle.flux_system.specs.System.{FluxSystem, scale, patches, share, coefficient}
use Rattle.flux_system.specs.Entries.{row_entries}
use Rattle.flux_system.specs.Shapes.{share_in}
use Rattle.flux_system.proofs.WithoutZeros.{share_in-below}
use Rattle.shot_core.specs.Shapes.{AreSmall}

-- the entries of a row
module _ (s : FluxSystem) (i : ℕ) (row : List Entry) (row_is : row ≡ row_entries s i) where
  pub row-share : (j : ℕ) → j < patches s → share_in row j ≡ share s i j
  unfolding row_entries
  row-share j h = ap (λ (es : List Entry). share_in es j) row_is ∙ share_in-below (patches s) (share s i) j h

-- the share that the rest of a row has for a patch, one entry on
rest-share : (row : List Entry) (k : ℕ) (d : Entry) (j : ℕ) → k < length row → share_in (drop k row) j ≡ cond (eqb (get_or row k d).patch j) (get_or row k d).share 0 + share_in (drop (k + 1) row) j
rest-share row k d j h = at_drop_more (λ (es : List Entry). share_in es j) row k d h ∙ sum_by-cons (λ (e : Entry). cond (eqb e.patch j) e.share 0) (get_or row k d) (drop (k + 1) row)

pub rest-share-here : (row : List Entry) (k : ℕ) (d : Entry) → k < length row → share_in (drop k row) (get_or row k d).patch ≡ (get_or row k d).share + share_in (drop (k + 1) row) (get_or row k d).patch
rest-share-here row k d h = let rest = rest-share row k d (get_or row k d).patch h in let this = cond-true (eqb (get_or row k d).patch (get_or row k d).patch) (get_or row k d).share 0 (eq-eqb _ _ (λ _. (get_or row k d).patch)) in omega arith

pub rest-share-there : (row : List Entry) (k : ℕ) (d : Entry) (j : ℕ) → k < length row → (get_or row k d).patch ≢ j → share_in (drop k row) j ≡ share_in (drop (k + 1) row) j
rest-share-there row k d j h ne = let rest = rest-share row k d j h in let this = cond-false (eqb (get_or row k d).patch j) (get_or row k d).share 0 (ne_eqb _ _ ne) in omega arith

pub rest-share-none : (row : List Entry) (k j : ℕ) → length row ≤ k → share_in (drop k row) j ≡ 0
rest-share-none row k j h = at_drop_all (λ (es : List Entry). share_in es j) row k h

-- what is left to book for a patch, beside what it has
abbrev to_book : ℕ → List Entry → ℕ → List ℕ → List ℕ → ℕ → ℕ
to_book factor row k residual fractions j = scale * get_or residual j 0 + get_or fractions j 0 + factor * share_in (drop k row) j

-- one entry is booked: what it gives is no more to come
module _ (factor k : ℕ) (row : List Entry) (d : Entry) (inside : k < length row) (residual fractions : List ℕ) where
  -- the patch of the entry, and its share
  abbrev target : ℕ
  target = (get_or row k d).patch

  abbrev portion : ℕ
  portion = (get_or row k d).share

  pub booked : (amount rest : ℕ) → target < length residual → target < length fractions
      → amount ≡ (get_or fractions target 0 + factor * portion) / scale → rest ≡ (get_or fractions target 0 + factor * portion) % scale
      → (j : ℕ) → to_book factor row (k + 1) (set residual target (get_or residual target 0 + amount)) (set fractions target rest) j ≡ to_book factor row k residual fractions j
  booked amount rest in_residual in_fractions amount_is rest_is j = dite (ℕ_discrete target j) here there
    where
      here : target ≡ j → to_book factor row (k + 1) (set residual target (get_or residual target 0 + amount)) (set fractions target rest) j ≡ to_book factor row k residual fractions j
      here same =
          let more = get_or-set_same residual target (get_or residual target 0 + amount) 0 in_residual in
          let left = get_or-set_same fractions target rest 0 in_fractions in
          let come = ap (λ (x : ℕ). factor * x) (rest-share-here row k d inside) in
          subst (λ (m : ℕ). to_book factor row (k + 1) (set residual target (get_or residual target 0 + amount)) (set fractions target rest) m ≡ to_book factor row k residual fractions m) same (omega arith)

      there : (target ≡ j → ⊥) → to_book factor row (k + 1) (set residual target (get_or residual target 0 + amount)) (set fractions target rest) j ≡ to_book factor row k residual fractions j
      there ne =
          let as_was = get_or-set_other residual target j (get_or residual target 0 + amount) 0 (λ e. ne (sym e)) in
          let stays = get_or-set_other fractions target j rest 0 (λ e. ne (sym e)) in
          let come = ap (λ (x : ℕ). factor * x) (rest-share-there row k d j inside ne) in
          omega arith

  -- what it gives fits
  pub booking_fits : (amount total : ℕ) → amount ≡ (get_or fractions target 0 + factor * portion) / scale → to_book factor row k residual fractions target ≡ total → total < scale * 18446744073709551616
      → get_or residual target 0 + amount < 18446744073709551616
  booking_fits amount total amount_is is fits = let come = ap (λ (x : ℕ). factor * x) (rest-share-here row k d inside) in omega arith

-- one product is added to the sum of the entry's patch: it is no more to come
module _ (factor k : ℕ) (row : List Entry) (d : Entry) (inside : k < length row) (sums : List ℕ) (sum : ℕ) (in_sums : (get_or row k d).patch < length sums) (sum_is : sum ≡ get_or sums (get_or row k d).patch 0 + factor * (get_or row k d).share) where
  pub added : (j : ℕ) → get_or (set sums (get_or row k d).patch sum) j 0 + factor * share_in (drop (k + 1) row) j ≡ get_or sums j 0 + factor * share_in (drop k row) j
  added j = dite (ℕ_discrete (get_or row k d).patch j) here there
    where
      here : (get_or row k d).patch ≡ j → get_or (set sums (get_or row k d).patch sum) j 0 + factor * share_in (drop (k + 1) row) j ≡ get_or sums j 0 + factor * share_in (drop k row) j
      here same =
          let now = get_or-set_same sums (get_or row k d).patch sum 0 in_sums in
          let come = ap (λ (x : ℕ). factor * x) (rest-share-here row k d inside) in
          subst (λ (m : ℕ). get_or (set sums (get_or row k d).patch sum) m 0 + factor * share_in (drop (k + 1) row) m ≡ get_or sums m 0 + factor * share_in (drop k row) m) same (omega arith)

      there : ((get_or row k d).patch ≡ j → ⊥) → get_or (set sums (get_or row k d).patch sum) j 0 + factor * share_in (drop (k + 1) row) j ≡ get_or sums j 0 + factor * share_in (drop k row) j
      there ne =
          let stays = get_or-set_other sums (get_or row k d).patch j sum 0 (λ e. ne (sym e)) in
          let come = ap (λ (x : ℕ). factor * x) (rest-share-there row k d j inside ne) in
          omega arith

-- a factor in two parts is the factor
pub split_is : (factor fraction f portion p : ℕ) → f ≡ fraction → p ≡ portion → f + (factor / 1000000000 * 1000000000 + factor % 1000000000) * p ≡ fraction + factor * portion
split_is factor fraction f portion p f_is p_is = let whole : factor / 1000000000 * 1000000000 + factor % 1000000000 ≡ factor = omega arith in λ k. f_is k + whole k * p_is k

-- what a shot passes on to a patch, by its row
pub to_pass : (s : FluxSystem) (i t factor : ℕ) (row : List Entry) (j : ℕ) → factor ≡ t * get_or s.reflectance i 0 → share_in row j ≡ share s i j → factor * share_in row j ≡ t * coefficient s i j
unfolding coefficient
to_pass s i t factor row j factor_is share_is =
    let product : (t * get_or s.reflectance i 0) * share s i j ≡ t * (get_or s.reflectance i 0 * share s i j) = omega arith in
    (λ k. factor_is k * share_is k) ∙ product

-- a number of parts has one way to be whole nanolumens and a fraction
pub whole_part : (a b r x : ℕ) → scale * a + b ≡ scale * r + x → b < scale → a ≡ r + x / scale
whole_part a b r x same small = omega arith

pub rest_part : (a b r x : ℕ) → scale * a + b ≡ scale * r + x → b < scale → b ≡ x % scale
rest_part a b r x same small = omega arith

-- less of what is to be passed on is left, once a part of it is
pub part_more : (amount fraction part least less more new_amount new_fraction : ℕ) → more ≡ less + least → new_amount ≡ amount + (fraction + least * part) / scale → new_fraction ≡ (fraction + least * part) % scale
    → scale * new_amount + (new_fraction + less * part) ≡ scale * amount + (fraction + more * part)
part_more amount fraction part least less more new_amount new_fraction more_is amount_is fraction_is = let product = ap (λ (x : ℕ). x * part) more_is in omega arith

-- a part of what fits does
pub part_fits : (amount fraction part least more total : ℕ) → least ≤ more → scale * amount + (fraction + more * part) ≡ total → total < scale * 18446744073709551616 → scale * amount + (fraction + least * part) < scale * 18446744073709551616
part_fits amount fraction part least more total few is fits = let product = mul-le least part more part few (omega arith) in omega arith

-- parts fit where their whole nanolumens do
pub total_fits : (amount x : ℕ) → amount + x / scale < 18446744073709551616 → scale * amount + x < scale * 18446744073709551616
total_fits amount x fits = omega arith

-- one fraction more that is below a nanolumen
pub small_after : (fractions : List ℕ) (target rest : ℕ) → rest < scale → AreSmall fractions → AreSmall (set fractions target rest)
small_after fractions target rest small before j h =
    let long = length-set fractions target rest in
    dite (ℕ_discrete j target)
    (λ same. subst (λ (m : ℕ). get_or (set fractions target rest) m 0 < scale) (sym same) (let at = get_or-set_same fractions target rest 0 (let P : ℕ → Type 0 = λ m. m < length fractions in subst P same (omega arith)) in omega arith))
    (λ ne. let at = get_or-set_other fractions target j rest 0 ne in let was = before j (omega arith) in omega arith)
