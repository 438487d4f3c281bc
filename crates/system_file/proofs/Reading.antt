-- Steps along the lines and the words of a system text.
use Rattle.std.proofs.Common.{◌≡◌, ℕ, ◌+◌, List, [], ◌∷◌, ◌++◌, map, refl, ap, ◌∙◌}
use Rattle.std.specs.List.{range_with_len, flat_map}
use Rattle.std.proofs.lemmas.List.{map-append}
use Rattle.laws.proofs.Ranges.{flat_map-more}
use Rattle.lux_lines.specs.Lines.{line_text}
use Rattle.lux_lines.specs.Words.{words}
use Rattle.lux_lines.specs.Numerals.{numeral_value}
use Rattle.system_file.specs.Rows.{numbers}
use Rattle.system_file.specs.SystemText.{shares_in}
use Rattle.system_file.specs.Shapes.{narrow_number}

-- the numbers behind the first word
pub numbers_at : (line word : List ℕ) (rest : List (List ℕ)) → words line ≡ word ∷ rest → numbers line ≡ map numeral_value rest
unfolding numbers
numbers_at line word rest h = rw h refl

-- the shares of one more line
pub shares_more : (text : List ℕ) (n : ℕ) → map narrow_number (shares_in text (n + 1)) ≡ map narrow_number (shares_in text n) ++ map narrow_number (numbers (line_text text (5 + n)))
shares_more text n =
    let row : ℕ → List ℕ = λ i. numbers (line_text text (5 + i)) in
    ap (map narrow_number) (flat_map-more row n) ∙ map-append narrow_number (flat_map row (range_with_len 0 n)) (row n)
