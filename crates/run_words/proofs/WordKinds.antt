-- The three kinds of words that the first test lets through, and what such words say when they are read one at a time.
use Rattle.std.proofs.Common.{◌≡◌, ℕ, ◌&&◌, ◌||◌, ◌==◌, not, cond, List, [], ◌∷◌, Bool, true, false, Option, Some, None, is_some, codes, refl, sym, subst, true≢false, nat_le, length}
use Rattle.std.specs.List.{list_all}
use Rattle.std.specs.Str.{bytes_eq}
use Rattle.std.proofs.lemmas.Slice.Eq.{bytes_eq-Decides}
use Rattle.lux_words.specs.Words.{is_operand}
use Rattle.run_words.specs.Shapes.{is_readable}

abbrev pub Text : Type 0
Text = List ℕ

abbrev pub csv_word : Text
csv_word = codes "--csv"

abbrev pub shooters_word : Text
shooters_word = codes "--shooters"

-- a readable word is the flag, or the option, or an operand, which begins with no dash
pub data Kind : Text → Type 0 where
  flag : Kind csv_word
  setting : Kind shooters_word
  operand : (x : ℕ) (xs : Text) → (x == 45) ≡ false → is_operand (x ∷ xs) ≡ true → Kind (x ∷ xs)

pub both : (a b : Bool) → (a && b) ≡ true → (a ≡ true) × (b ≡ true)
both true b e = (refl, e)
both false b e = absurd (true≢false (sym e))

operand_kind : (word : Text) → is_operand word ≡ true → Kind word
operand_kind [] e = absurd (true≢false (sym e))
operand_kind (x ∷ xs) e = go (x == 45) refl
  where
    go : (b : Bool) → (x == 45) ≡ b → Kind (x ∷ xs)
    go true dash = absurd (true≢false (sym (rw dash at (both (nat_le 1 (length (x ∷ xs)) && nat_le (length (x ∷ xs)) 255) (not (x == 45)) e).1)))
    go false plain = operand x xs plain e

pub kind_of : (word : Text) → is_readable word ≡ true → Kind word
kind_of word e = go (bytes_eq csv_word word) (bytes_eq shooters_word word) refl refl
  where
    go : (a b : Bool) → bytes_eq csv_word word ≡ a → bytes_eq shooters_word word ≡ b → Kind word
    go true b is other = subst Kind ((bytes_eq-Decides csv_word word).0 is) flag
    go false true is other = subst Kind ((bytes_eq-Decides shooters_word word).0 other) setting
    go false false is other = operand_kind word (rw (is, other) at e)

-- the words, each with its kind
pub data Kinds : List Text → Type 0 where
  none : Kinds []
  more : {word : Text} {words : List Text} → Kind word → Kinds words → Kinds (word ∷ words)

pub kinds_of : (words : List Text) → list_all is_readable words ≡ true → Kinds words
kinds_of [] e = none
kinds_of (word ∷ words) e = let p = both (is_readable word) _ e in more (kind_of word p.0) (kinds_of words p.1)

-- what words say
pub record Said : Type 0 where
  pub project : Text
  pub shooters : Option Text
  pub csv : Bool

abbrev pub ends : Option Text → Option Text → Bool → Bool → Option Said
ends (Some project) shooters csv false = Some (record { project = project; shooters = shooters; csv = csv })
ends _ shooters csv waits = None

-- what the words say, behind some that had such a file, such a value, and perhaps the flag; `waits` says that the last was the
-- option
abbrev pub reading : Option Text → Option Text → Bool → Bool → List Text → Option Said
reading project shooters csv waits [] = ends project shooters csv waits
reading project shooters csv waits (word ∷ words) =
    cond (bytes_eq word csv_word) (cond (csv || waits) None (reading project shooters true false words))
    (cond (bytes_eq word shooters_word) (cond (is_some shooters || waits) None (reading project shooters csv true words))
    (cond waits (reading project (Some word) csv false words)
    (cond (is_some project) None (reading (Some word) shooters csv false words))))

module _ (project shooters : Option Text) (csv waits : Bool) (words : List Text) where
  pub at_operand : (x : ℕ) (xs : Text) → (x == 45) ≡ false → reading project shooters csv waits ((x ∷ xs) ∷ words) ≡ cond waits (reading project (Some (x ∷ xs)) csv false words) (cond (is_some project) None (reading (Some (x ∷ xs)) shooters csv false words))
  at_operand x xs plain = rw plain refl
