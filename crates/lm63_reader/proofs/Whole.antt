-- The parts of a text's meaning.
use Rattle.std.proofs.Common.{◌≡◌, ◌≢◌, ℕ, ◌+◌, Bool, false, List, Option, Some, None, Result, Ok, Err, length, drop, refl, sym, ap, ◌∙◌}
use Rattle.std.specs.Prelude.{IfOk, IfErr, unwrap_or}
use Rattle.duties.specs.Duties.{Answers, first}
use Rattle.duties.proofs.Orders.{this_met, this_fails, none_left, judged_ok, judged_err}
use Rattle.lux_lines.specs.Places.{Piece}
use Rattle.lux_lines.specs.Tokens.{tokens}
use Rattle.photo_web.specs.declared.photometry.Photometry.{Photometry}
use Rattle.lm63_reader.specs.declared.faults.LmFault.{LmFault}
use Rattle.lm63_reader.specs.declared.faults.LmFault.TheVariants.{Memory}
use Rattle.lm63_reader.specs.Front.{front_duties, tilt_line, tilt_inclusion, tokens_behind}
use Rattle.lm63_reader.specs.Heads.{verticals, horizontals, factor}
use Rattle.lm63_reader.specs.Lm63.{Layout, layout, head_place, is_included, token_duties, text_duties, photometry, photometry_of}

-- what a head says is the layout
pub layout_is : (all : List Piece) (place : ℕ) (l : Layout) → l.start ≡ place + 13 → l.verticals ≡ verticals all place → l.horizontals ≡ horizontals all place → l.factor ≡ factor all place → l ≡ layout all place
unfolding layout
layout_is all place l start v h f = λ k. record { start = start k; verticals = v k; horizontals = h k; factor = f k }

module _ (text : List ℕ) where
  -- the first fault of the lines is the text's
  pub front_fails : (fault : LmFault) → first (front_duties text) ≡ Some fault → photometry_of text ≡ Err fault
  unfolding photometry_of text_duties
  front_fails fault h = judged_err (text_duties text) (photometry (tokens_behind text) (layout (tokens_behind text) (head_place (is_included text) (tokens_behind text)))) fault (this_fails _ _ _ h)

  -- behind lines that are met, the first fault of the numbers is the text's
  numbers_fail : (fault : LmFault) → first (front_duties text) ≡ None → first (token_duties (is_included text) (tokens_behind text)) ≡ Some fault → photometry_of text ≡ Err fault
  unfolding photometry_of text_duties
  numbers_fail fault front h = judged_err (text_duties text) (photometry (tokens_behind text) (layout (tokens_behind text) (head_place (is_included text) (tokens_behind text)))) fault (this_met _ _ front ∙ this_fails _ _ _ h)

  -- where all is met, the text is its photometry
  all_met : first (front_duties text) ≡ None → first (token_duties (is_included text) (tokens_behind text)) ≡ None → photometry_of text ≡ Ok (photometry (tokens_behind text) (layout (tokens_behind text) (head_place (is_included text) (tokens_behind text))))
  unfolding photometry_of text_duties
  all_met front h = judged_ok (text_duties text) (photometry (tokens_behind text) (layout (tokens_behind text) (head_place (is_included text) (tokens_behind text)))) (this_met _ _ front ∙ (this_met _ _ h ∙ none_left))

  -- the tokens behind the TILT line
  pub tokens_are : (line : Piece) → tilt_line text ≡ Some line → tokens_behind text ≡ tokens line.number (drop (line.start + length line.text) text)
  unfolding tokens_behind
  tokens_are line h = rw h refl

  -- what is read of the numbers behind lines that are met is read of the text
  pub reading_ok : (included : Bool) (all : List Piece) (r : Result Photometry LmFault) → first (front_duties text) ≡ None → tilt_inclusion text ≡ Some included → tokens_behind text ≡ all →
      Answers Memory (first (token_duties included all)) r → IfOk r (λ p. p ≡ photometry all (layout all (head_place included all))) → IfOk r (λ p. photometry_of text ≡ Ok p)
  reading_ok included all (Ok p) front tilt tokens answer value =
      let inside : is_included text ≡ included = ap (λ (o : Option Bool). unwrap_or o false) tilt in
      all_met front ((λ k. first (token_duties (inside k) (tokens k))) ∙ answer)
      ∙ (λ k. Ok (((λ i. photometry (tokens i) (layout (tokens i) (head_place (inside i) (tokens i)))) ∙ sym value) k))
  reading_ok included all (Err f) front tilt tokens answer value = value

  pub reading_err : (included : Bool) (all : List Piece) (r : Result Photometry LmFault) → first (front_duties text) ≡ None → tilt_inclusion text ≡ Some included → tokens_behind text ≡ all →
      Answers Memory (first (token_duties included all)) r → IfErr r (λ f. f ≢ Memory → photometry_of text ≡ Err f)
  reading_err included all (Ok p) front tilt tokens answer = tt
  reading_err included all (Err f) front tilt tokens answer = λ ne.
      let inside : is_included text ≡ included = ap (λ (o : Option Bool). unwrap_or o false) tilt in
      numbers_fail f front ((λ k. first (token_duties (inside k) (tokens k))) ∙ answer ne)
