-- What was passed on to a patch, by the entries of its column alone.
use Rattle.std.proofs.Common.{◌≡◌, ℕ, zero, suc, ◌+◌, ◌*◌, ◌<◌, ◌≤◌, List, length, get_or, take, take_all, refl, ap, ◌∙◌, arith, length-append}
use Rattle.std.specs.List.{sum_by}
use Rattle.std.proofs.lemmas.List.Sums.{sum_by-append, sum_by_more}
use Rattle.std.proofs.lemmas.Nat.{mul-le}
use mathlib.Core.Logic.{dite}
use native.Mathlib.Decide.{ℕ_discrete}
use Rattle.flux_system.specs.declared.entries.Entry.{Entry}
use Rattle.flux_system.specs.Sums.{sum_below}
use Rattle.flux_system.specs.System.{FluxSystem, patches, share, coefficient}
use Rattle.flux_system.specs.Entries.{entry_of, entries_below, column_entries}
use Rattle.flux_system.proofs.Sums.{sum-same}
use Rattle.flux_system.proofs.WithoutZeros.{entry_of-zero, entry_of-some}
use Rattle.flux_ledger.specs.Balance.{passed_to}

-- shares with a weight by their patch: the zeros that a list leaves out add nothing
sum-entry : (patch share : ℕ) (w : ℕ → ℕ) → sum_by (λ (e : Entry). w e.patch * e.share) (entry_of patch share) ≡ w patch * share
sum-entry patch share w =
    dite (ℕ_discrete share 0)
    (λ e. let none = ap (λ (x : ℕ). w patch * x) e in ap (sum_by (λ (e : Entry). w e.patch * e.share)) (entry_of-zero patch share e) ∙ omega arith)
    (λ ne. ap (sum_by (λ (e : Entry). w e.patch * e.share)) (entry_of-some patch share (omega arith)) ∙ omega arith)

pub sum-entries : (n : ℕ) (f w : ℕ → ℕ) → sum_by (λ (e : Entry). w e.patch * e.share) (entries_below n f) ≡ sum_below n (λ i. w i * f i)
sum-entries zero f w = refl
sum-entries (suc n) f w =
    let both = sum_by-append (λ (e : Entry). w e.patch * e.share) (entries_below n f) (entry_of n (f n)) in
    let front = sum-entries n f w in
    let last = sum-entry n (f n) w in
    omega arith

length-entry : (patch share : ℕ) → length (entry_of patch share) ≤ 1
length-entry patch share =
    dite (ℕ_discrete share 0)
    (λ e. let none = ap length (entry_of-zero patch share e) in omega arith)
    (λ ne. let one = ap length (entry_of-some patch share (omega arith)) in omega arith)

length-entries : (n : ℕ) (f : ℕ → ℕ) → length (entries_below n f) ≤ n
length-entries zero f = omega arith
length-entries (suc n) f = omega (arith, length-append (entries_below n f) (entry_of n (f n)), length-entries n f, length-entry n (f n))

module _ (s : FluxSystem) (taken : List ℕ) where
  -- what the takes of an entry's patch passed on by it
  abbrev pub passed_by : Entry → ℕ
  passed_by e = (get_or taken e.patch 0 * get_or s.reflectance e.patch 0) * e.share

  module _ (j : ℕ) (column : List Entry) (is : column ≡ column_entries s j) where
    pub few : length column ≤ patches s
    unfolding column_entries
    few = let long = ap length is in omega (arith, length-entries (patches s) (λ i. share s i j))

    -- one entry more
    pub passed-more : (k t r q passed coefficient term : ℕ) → let e = get_or column k (record { patch = 0; share = 0 }) in
        k < length column → t ≡ get_or taken e.patch 0 → r ≡ get_or s.reflectance e.patch 0 → q ≡ e.share → passed ≡ sum_by passed_by (take k column)
        → coefficient ≡ r * q → term ≡ t * coefficient → passed + term ≡ sum_by passed_by (take (k + 1) column)
    passed-more k t r q passed coefficient term inside t_is r_is q_is so_far c_is term_is =
        let more = sum_by_more passed_by column k (record { patch = 0; share = 0 }) inside in
        let product : t * (r * q) ≡ (t * r) * q = omega arith in
        let whole = term_is ∙ (ap (λ (x : ℕ). t * x) c_is ∙ (product ∙ (λ x. (t_is x * r_is x) * q_is x))) in
        omega arith

    -- all entries
    pub passed-all : (k passed : ℕ) → k ≡ length column → passed ≡ sum_by passed_by (take k column) → passed ≡ passed_to s taken j
    unfolding coefficient column_entries
    passed-all k passed end so_far =
        so_far
        ∙ (ap (sum_by passed_by) (take_all k column (omega arith) ∙ is)
        ∙ (sum-entries (patches s) (λ i. share s i j) (λ i. get_or taken i 0 * get_or s.reflectance i 0)
        ∙ sum-same (patches s) _ _ (λ i h. let product : (get_or taken i 0 * get_or s.reflectance i 0) * share s i j ≡ get_or taken i 0 * (get_or s.reflectance i 0 * share s i j) = omega arith in product)))

-- what one entry can add
pub term_fits : (t r q coefficient term : ℕ) → t < 18446744073709551616 → r ≤ 950 → q < 1000000000 → coefficient ≡ r * q → term ≡ t * coefficient → term ≤ 18446744073709551616000000000000
term_fits t r q coefficient term t_fits r_fits q_fits c_is term_is =
    let small = mul-le r q 950 1000000000 r_fits (omega arith) in
    let whole = mul-le t coefficient 18446744073709551616 1000000000000 (omega arith) (omega arith) in
    omega arith
