-- The text of a ledger is its lines.
use Rattle.std.proofs.Common.{◌≡◌, ℕ, List, [], ◌∷◌, ◌++◌, map, length, slice_index, refl, sym, ap, ◌∙◌, append_assoc, codes}
use Rattle.std.specs.Fmt.{decimal}
use Rattle.std.specs.List.{flat_map, range_with_len}
use Rattle.flux_ledger.specs.LedgerText.{patch_line, head_lines, ledger_text}
use Rattle.flux_ledger.specs.declared.ledger.Ledger.{Ledger}
use Rattle.ledger_file.proofs.Joined.{joined}

-- the line of patch j, without the LF at its end
abbrev pub patch_text : Ledger → ℕ → List ℕ
patch_text l j =
    codes "patch " ++ decimal j ++ codes " direct " ++ decimal (slice_index l.direct j) ++ codes " taken " ++ decimal (slice_index l.taken j)
    ++ codes " residual " ++ decimal (slice_index l.residual j) ++ codes " err " ++ decimal (slice_index l.err j)

-- all lines
abbrev pub ledger_lines : Ledger → List (List ℕ)
ledger_lines l =
    codes "lux-ledger 1" ∷ (codes "patches " ++ decimal (length l.direct)) ∷ (codes "wins " ++ decimal l.wins) ∷ (codes "parts " ++ decimal l.parts)
    ∷ map (patch_text l) (range_with_len 0 (length l.direct))

patches_joined : (l : Ledger) (numbers : List ℕ) → flat_map (patch_line l) numbers ≡ joined (map (patch_text l) numbers)
patches_joined l [] = refl
patches_joined l (j ∷ numbers) =
    append_assoc (patch_text l j) (10 ∷ []) (flat_map (patch_line l) numbers) ∙ ap (λ (t : List ℕ). patch_text l j ++ 10 ∷ t) (patches_joined l numbers)

-- seven pieces in front of a text
seven : (a b c d e f g rest : List ℕ) → (a ++ b ++ c ++ d ++ e ++ f ++ g) ++ rest ≡ a ++ (b ++ (c ++ (d ++ (e ++ (f ++ (g ++ rest))))))
seven a b c d e f g rest = rw (append_assoc, append_assoc, append_assoc, append_assoc, append_assoc, append_assoc) refl

-- the first lines, in front of what stands behind each number
lines_of_head : (n w p rest : List ℕ)
    → codes "lux-ledger 1\npatches " ++ (n ++ (codes "\nwins " ++ (w ++ (codes "\nparts " ++ (p ++ (codes "\n" ++ rest))))))
    ≡ codes "lux-ledger 1" ++ 10 ∷ (codes "patches " ++ (n ++ 10 ∷ (codes "wins " ++ (w ++ 10 ∷ (codes "parts " ++ (p ++ 10 ∷ rest))))))
lines_of_head n w p rest = refl

pub text_joined : (l : Ledger) → ledger_text l ≡ joined (ledger_lines l)
text_joined l =
    let n = decimal (length l.direct) in
    let w = decimal l.wins in
    let p = decimal l.parts in
    let rest = joined (map (patch_text l) (range_with_len 0 (length l.direct))) in
    ap (λ (t : List ℕ). head_lines l ++ t) (patches_joined l (range_with_len 0 (length l.direct)))
    ∙ (seven (codes "lux-ledger 1\npatches ") n (codes "\nwins ") w (codes "\nparts ") p (codes "\n") rest
    ∙ (lines_of_head n w p rest ∙ sym (ended_head n w p rest)))
  where
    ended_head : (n w p rest : List ℕ)
        → codes "lux-ledger 1" ++ 10 ∷ ((codes "patches " ++ n) ++ 10 ∷ ((codes "wins " ++ w) ++ 10 ∷ ((codes "parts " ++ p) ++ 10 ∷ rest)))
        ≡ codes "lux-ledger 1" ++ 10 ∷ (codes "patches " ++ (n ++ 10 ∷ (codes "wins " ++ (w ++ 10 ∷ (codes "parts " ++ (p ++ 10 ∷ rest))))))
    ended_head n w p rest = refl
