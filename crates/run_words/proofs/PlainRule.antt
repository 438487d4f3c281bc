-- What the plain rule says of words, read one at a time.
use Rattle.std.proofs.Common.{◌≡◌, ◌∙◌, ℕ, suc, ◌+◌, ◌-◌, ◌≤◌, ◌&&◌, ◌||◌, ◌==◌, not, cond, List, [], ◌∷◌, ◌++◌, Bool, true, false, Option, Some, None, is_some, option_map, codes, refl, sym, ap, ap₂, arith, true≢false, append-nil, append_assoc, nat_lt, length, map, filter, take, lt-ltb, le-ltb, length-append}
use Rattle.std.specs.List.{list_all, range_with_len}
use Rattle.std.specs.Str.{bytes_eq}
use Rattle.std.proofs.lemmas.Slice.Eq.{bytes_eq-Decides}
use Rattle.std.proofs.lemmas.List.{get_or_at, get_or_append_left, take_at, length_push}
use Rattle.lux_words.specs.Words.{is_among, is_argument, is_command, is_operand, is_own_operand, is_value, only_operand, operands, setting_of, word_at}
use Rattle.run_words.specs.RunWords.{is_csv, run_options}
use Rattle.run_words.proofs.WordKinds.{Text, flag, setting, operand, Kinds, none, more, Said, ends, reading, csv_word, shooters_word, at_operand}
use Rattle.run_words.proofs.PlainValues.{list_any-push, no_value, value_behind}
use Rattle.run_words.proofs.PlainWords.{arguments, own_operands, arguments_more, word_here, operands_more}

-- ---- words behind others

-- what is known of the words before
pub record Before (before : List Text) (value : Option Text) (table waits : Bool) : Type 0 where
  pub some : 1 ≤ length before
  pub flags : is_among before csv_word ≡ table
  pub settings : is_among before shooters_word ≡ (is_some value || waits)
  pub last : is_among run_options.settings (word_at before (length before - 1)) ≡ waits
  pub known : (x : Text) → value ≡ Some x → (rest : List Text) → setting_of shooters_word (before ++ rest) ≡ Some x
  pub awaited : waits ≡ true → (value ≡ None) × ((x : Text) (rest : List Text) → setting_of shooters_word (before ++ x ∷ rest) ≡ Some x)

-- the test of a word, by what is known of the words before
abbrev judged : Text → List Text → Bool → Bool → Bool
judged word before waits followed =
    is_operand word || (((is_among run_options.flags word || (is_among run_options.settings word && followed)) && not (is_among before word)) && not waits)

abbrev followed : List Text → Bool
followed [] = false
followed (word ∷ words) = true

followed_is : (before : List Text) (word : Text) (rest : List Text) → nat_lt (length before + 1) (length (before ++ word ∷ rest)) ≡ followed rest
followed_is before word [] =
    let long : length (before ++ word ∷ []) ≡ length before + 1 = length_push before word in
    le-ltb (length before + 1) (length (before ++ word ∷ [])) (omega arith)
followed_is before word (next ∷ rest) =
    let long : length (before ++ word ∷ next ∷ rest) ≡ length before + suc (suc (length rest)) = length-append before (word ∷ next ∷ rest) in
    lt-ltb (length before + 1) (length (before ++ word ∷ next ∷ rest)) (omega arith)

module _ (before : List Text) (value : Option Text) (table waits : Bool) (known : Before before value table waits) (word : Text) (rest : List Text) where
  value_here : is_value run_options (before ++ word ∷ rest) (length before) ≡ waits
  value_here =
      let some = known.some in
      ap (is_among run_options.settings) (get_or_append_left before (word ∷ rest) [] (length before - 1) (omega arith)) ∙ known.last

  argument_here : is_argument run_options (before ++ word ∷ rest) (length before) ≡ judged word before waits (followed rest)
  argument_here =
      let here = word_here before word rest in
      let taken : take (length before) (before ++ word ∷ rest) ≡ before = take_at before (word ∷ rest) (length before) refl in
      let waiting = value_here in
      let more = followed_is before word rest in
      λ i. judged (here i) (taken i) (waiting i) (more i)

  own_here : is_own_operand run_options (before ++ word ∷ rest) (length before) ≡ (is_operand word && not waits)
  own_here =
      let here = word_here before word rest in
      let waiting = value_here in
      λ i. is_operand (here i) && not (waiting i)

-- ---- one word more

abbrev result : Bool → List Text → Option Text → Bool → Option Said
result true (project ∷ []) shooters csv = Some (record { project = project; shooters = shooters; csv = csv })
result _ _ shooters csv = None

abbrev listed : Option Text → List Text
listed None = []
listed (Some file) = file ∷ []

abbrev rule_behind : List Text → Option Text → List Text → Option Said
rule_behind before file rest = result (arguments before rest) (listed file ++ own_operands before rest) (setting_of shooters_word (before ++ rest)) (is_csv (before ++ rest))

-- the rule, by whether the next word is an argument, and an operand
step : (before : List Text) (file : Option Text) (word : Text) (rest : List Text) (argument own : Bool)
    → is_argument run_options (before ++ word ∷ rest) (length before) ≡ argument → is_own_operand run_options (before ++ word ∷ rest) (length before) ≡ own
    → rule_behind before file (word ∷ rest)
    ≡ result (argument && arguments (before ++ word ∷ []) rest) (listed file ++ cond own (word ∷ own_operands (before ++ word ∷ []) rest) (own_operands (before ++ word ∷ []) rest))
    (setting_of shooters_word ((before ++ word ∷ []) ++ rest)) (is_csv ((before ++ word ∷ []) ++ rest))
step before file word rest argument own is_one is_own =
    let split = sym (append_assoc before (word ∷ []) rest) in
    let all : arguments before (word ∷ rest) ≡ (argument && arguments (before ++ word ∷ []) rest) = arguments_more before word rest ∙ ap (λ (b : Bool). b && arguments (before ++ word ∷ []) rest) is_one in
    let some : own_operands before (word ∷ rest) ≡ cond own (word ∷ own_operands (before ++ word ∷ []) rest) (own_operands (before ++ word ∷ []) rest) =
    operands_more before word rest ∙ ap (λ (b : Bool). cond b (word ∷ own_operands (before ++ word ∷ []) rest) (own_operands (before ++ word ∷ []) rest)) is_own in
    λ i. result (all i) (listed file ++ some i) (setting_of shooters_word (split i)) (is_csv (split i))

among-push : (before : List Text) (word other : Text) → is_among (before ++ word ∷ []) other ≡ (is_among before other || bytes_eq word other)
among-push before word other = list_any-push (λ w. bytes_eq w other) before word

last-push : (before : List Text) (word : Text) → word_at (before ++ word ∷ []) (length (before ++ word ∷ []) - 1) ≡ word
last-push before word =
    let long : length before ≡ length (before ++ word ∷ []) - 1 = omega (arith, length_push before word) in
    get_or_at before word [] [] (length (before ++ word ∷ []) - 1) long

or-nothing : (b : Bool) → (b || false) ≡ b
or-nothing true = refl
or-nothing false = refl

or-all : (b : Bool) → (b || true) ≡ true
or-all true = refl
or-all false = refl

known_more : (before : List Text) (value : Option Text) (word : Text) → ((x : Text) → value ≡ Some x → (rest : List Text) → setting_of shooters_word (before ++ rest) ≡ Some x)
    → (x : Text) → value ≡ Some x → (rest : List Text) → setting_of shooters_word ((before ++ word ∷ []) ++ rest) ≡ Some x
known_more before value word h x is rest = ap (setting_of shooters_word) (append_assoc before (word ∷ []) rest) ∙ h x is (word ∷ rest)

some_more : (before : List Text) (word : Text) → 1 ≤ length (before ++ word ∷ [])
some_more before word = omega (arith, length_push before word)

never : {A : Type 0} → false ≡ true → A
never e = absurd (true≢false (sym e))

after_flag : (before : List Text) (value : Option Text) → Before before value false false → Before (before ++ csv_word ∷ []) value true false
after_flag before value h = record {
  some = some_more before csv_word;
  flags = among-push before csv_word csv_word ∙ or-all (is_among before csv_word);
  settings = among-push before csv_word shooters_word ∙ (or-nothing (is_among before shooters_word) ∙ h.settings);
  last = ap (is_among run_options.settings) (last-push before csv_word);
  known = known_more before value csv_word h.known;
  awaited = λ e. never e;
}

after_setting : (before : List Text) (table : Bool) → Before before None table false → Before (before ++ shooters_word ∷ []) None table true
after_setting before table h = record {
  some = some_more before shooters_word;
  flags = among-push before shooters_word csv_word ∙ (or-nothing (is_among before csv_word) ∙ h.flags);
  settings = among-push before shooters_word shooters_word ∙ or-all (is_among before shooters_word);
  last = ap (is_among run_options.settings) (last-push before shooters_word);
  known = λ x e. absurd (true≢false (ap (λ (o : Option Text). is_some o) (sym e)));
  awaited = λ e. (refl, λ x rest. value_behind before x rest h.settings);
}

module _ (x : ℕ) (xs : Text) (plain : (x == 45) ≡ false) where
  no_flag : bytes_eq (x ∷ xs) csv_word ≡ false
  no_flag = rw plain refl

  no_setting : bytes_eq (x ∷ xs) shooters_word ≡ false
  no_setting = rw plain refl

other_way : (a b : Text) → bytes_eq b a ≡ false → bytes_eq a b ≡ false
other_way a b e = go (bytes_eq a b) refl
  where
    go : (same : Bool) → bytes_eq a b ≡ same → bytes_eq a b ≡ false
    go true is = absurd (true≢false (sym ((bytes_eq-Decides b a).1 (sym ((bytes_eq-Decides a b).0 is))) ∙ e))
    go false is = is

no_settings : (x : ℕ) (xs : Text) → (x == 45) ≡ false → is_among run_options.settings (x ∷ xs) ≡ false
no_settings x xs plain = ap (λ (b : Bool). b || false) (other_way shooters_word (x ∷ xs) (no_setting x xs plain))

pub after_operand : (before : List Text) (value : Option Text) (table : Bool) (x : ℕ) (xs : Text) → (x == 45) ≡ false → Before before value table false → Before (before ++ (x ∷ xs) ∷ []) value table false
after_operand before value table x xs plain h = record {
  some = some_more before (x ∷ xs);
  flags = among-push before (x ∷ xs) csv_word ∙ (ap (λ (b : Bool). is_among before csv_word || b) (no_flag x xs plain) ∙ (or-nothing (is_among before csv_word) ∙ h.flags));
  settings = among-push before (x ∷ xs) shooters_word ∙ (ap (λ (b : Bool). is_among before shooters_word || b) (no_setting x xs plain) ∙ (or-nothing (is_among before shooters_word) ∙ h.settings));
  last = ap (is_among run_options.settings) (last-push before (x ∷ xs)) ∙ no_settings x xs plain;
  known = known_more before value (x ∷ xs) h.known;
  awaited = λ e. never e;
}

after_value : (before : List Text) (table : Bool) (x : ℕ) (xs : Text) → (x == 45) ≡ false → Before before None table true → Before (before ++ (x ∷ xs) ∷ []) (Some (x ∷ xs)) table false
after_value before table x xs plain h = record {
  some = some_more before (x ∷ xs);
  flags = among-push before (x ∷ xs) csv_word ∙ (ap (λ (b : Bool). is_among before csv_word || b) (no_flag x xs plain) ∙ (or-nothing (is_among before csv_word) ∙ h.flags));
  settings = among-push before (x ∷ xs) shooters_word ∙ (ap (λ (b : Bool). is_among before shooters_word || b) (no_setting x xs plain) ∙ (or-nothing (is_among before shooters_word) ∙ h.settings));
  last = ap (is_among run_options.settings) (last-push before (x ∷ xs)) ∙ no_settings x xs plain;
  known = λ y is rest. ap (setting_of shooters_word) (append_assoc before ((x ∷ xs) ∷ []) rest) ∙ ((h.awaited refl).1 (x ∷ xs) rest ∙ is);
  awaited = λ e. never e;
}

-- ---- all words

-- a second file is one too many
two_files : (b : Bool) (one other : Text) (l : List Text) (value : Option Text) (table : Bool) → result b (one ∷ other ∷ l) value table ≡ None
two_files true one other l value table = refl
two_files false one other l value table = refl

behind_all : (before : List Text) (file value : Option Text) (table : Bool) → Before before value table false → rule_behind before file [] ≡ ends file value table false
behind_all before None value table h = refl
behind_all before (Some file) value table h =
    let all = append-nil before in
    ap₂ (λ (v : Option Text) (b : Bool). Some (record { project = file; shooters = v; csv = b })) (value_is value h) (ap is_csv all ∙ h.flags)
  where
    value_is : (v : Option Text) → Before before v table false → setting_of shooters_word (before ++ []) ≡ v
    value_is None g = ap (setting_of shooters_word) (append-nil before) ∙ no_value before g.settings
    value_is (Some x) g = g.known x refl []

unless_flag : (b c : Bool) (before : List Text) (word : Text) → is_among before word ≡ b → (not (is_among before word) && not c) ≡ not (b || c)
unless_flag true c before word e = ap (λ (d : Bool). not d && not c) e
unless_flag false c before word e = ap (λ (d : Bool). not d && not c) e

-- the flag and the option, judged
flag_judged : (before : List Text) (table waits next : Bool) → is_among before csv_word ≡ table → judged csv_word before waits next ≡ not (table || waits)
flag_judged before table waits next e = unless_flag table waits before csv_word e

setting_waits : (before : List Text) (next : Bool) → judged shooters_word before true next ≡ false
setting_waits before next = go (next && not (is_among before shooters_word))
  where
    go : (b : Bool) → (b && false) ≡ false
    go true = refl
    go false = refl

setting_twice : (before : List Text) (next : Bool) → is_among before shooters_word ≡ true → judged shooters_word before false next ≡ false
setting_twice before true e = ap (λ (b : Bool). not b && true) e
setting_twice before false e = refl

setting_once : (before : List Text) → is_among before shooters_word ≡ false → judged shooters_word before false true ≡ true
setting_once before e = ap (λ (b : Bool). not b && true) e

setting_first : (before : List Text) (file : Option Text) (table : Bool) (words : List Text) → Before before None table false
    → (followed words ≡ true → rule_behind (before ++ shooters_word ∷ []) file words ≡ reading file None table true words)
    → rule_behind before file (shooters_word ∷ words) ≡ reading file None table true words
setting_first before None table [] h rest = step before None shooters_word [] false false (argument_here before None table false h shooters_word []) (own_here before None table false h shooters_word [])
setting_first before (Some file) table [] h rest = step before (Some file) shooters_word [] false false (argument_here before None table false h shooters_word []) (own_here before None table false h shooters_word [])
setting_first before file table (next ∷ words) h rest =
    step before file shooters_word (next ∷ words) true false (argument_here before None table false h shooters_word (next ∷ words) ∙ setting_once before h.settings) (own_here before None table false h shooters_word (next ∷ words))
    ∙ rest refl

operand_judged : (word : Text) (before : List Text) (waits next : Bool) → is_operand word ≡ true → judged word before waits next ≡ true
operand_judged word before waits next is = ap (λ (b : Bool). b || (((is_among run_options.flags word || (is_among run_options.settings word && next)) && not (is_among before word)) && not waits)) is

says : (words : List Text) → Kinds words → (before : List Text) (file value : Option Text) (table waits : Bool) → Before before value table waits → (waits ≡ true → followed words ≡ true)
    → rule_behind before file words ≡ reading file value table waits words
says [] none before file value table true h some = never (some refl)
says [] none before file value table false h some = behind_all before file value table h
says (word ∷ words) (more flag others) before file value true waits h some =
    step before file csv_word words false false (argument_here before value true waits h csv_word words ∙ flag_judged before true waits (followed words) h.flags) (own_here before value true waits h csv_word words)
says (word ∷ words) (more flag others) before file value false true h some =
    step before file csv_word words false false (argument_here before value false true h csv_word words ∙ flag_judged before false true (followed words) h.flags) (own_here before value false true h csv_word words)
says (word ∷ words) (more flag others) before file value false false h some =
    step before file csv_word words true false (argument_here before value false false h csv_word words ∙ flag_judged before false false (followed words) h.flags) (own_here before value false false h csv_word words)
    ∙ says words others (before ++ csv_word ∷ []) file value true false (after_flag before value h) (λ e. never e)
says (word ∷ words) (more setting others) before file value table true h some =
    step before file shooters_word words false false (argument_here before value table true h shooters_word words ∙ setting_waits before (followed words)) (own_here before value table true h shooters_word words)
    ∙ ap (λ (b : Bool). cond b None (reading file value table true words)) (sym (or-all (is_some value)))
says (word ∷ words) (more setting others) before file (Some value) table false h some =
    step before file shooters_word words false false (argument_here before (Some value) table false h shooters_word words ∙ setting_twice before (followed words) h.settings) (own_here before (Some value) table false h shooters_word words)
says (word ∷ words) (more setting others) before file None table false h some =
    setting_first before file table words h (λ e. says words others (before ++ shooters_word ∷ []) file None table true (after_setting before table h) (λ _. e))
says (word ∷ words) (more (operand x xs plain is) others) before file (Some value) table true h some = absurd (true≢false (ap (λ (o : Option Text). is_some o) (h.awaited refl).0))
says (word ∷ words) (more (operand x xs plain is) others) before file None table true h some =
    step before file (x ∷ xs) words true false (argument_here before None table true h (x ∷ xs) words ∙ operand_judged (x ∷ xs) before true (followed words) is) (own_here before None table true h (x ∷ xs) words ∙ ap (λ (b : Bool). b && false) is)
    ∙ (says words others (before ++ (x ∷ xs) ∷ []) file (Some (x ∷ xs)) table false (after_value before table x xs plain h) (λ e. never e)
    ∙ sym (at_operand file None table true words x xs plain))
says (word ∷ words) (more (operand x xs plain is) others) before None value table false h some =
    step before None (x ∷ xs) words true true (argument_here before value table false h (x ∷ xs) words ∙ operand_judged (x ∷ xs) before false (followed words) is) (own_here before value table false h (x ∷ xs) words ∙ ap (λ (b : Bool). b && true) is)
    ∙ (says words others (before ++ (x ∷ xs) ∷ []) (Some (x ∷ xs)) value table false (after_operand before value table x xs plain h) (λ e. never e)
    ∙ sym (at_operand None value table false words x xs plain))
says (word ∷ words) (more (operand x xs plain is) others) before (Some file) value table false h some =
    step before (Some file) (x ∷ xs) words true true (argument_here before value table false h (x ∷ xs) words ∙ operand_judged (x ∷ xs) before false (followed words) is) (own_here before value table false h (x ∷ xs) words ∙ ap (λ (b : Bool). b && true) is)
    ∙ (two_files (arguments (before ++ (x ∷ xs) ∷ []) words) file (x ∷ xs) (own_operands (before ++ (x ∷ xs) ∷ []) words) (setting_of shooters_word ((before ++ (x ∷ xs) ∷ []) ++ words)) (is_csv ((before ++ (x ∷ xs) ∷ []) ++ words))
    ∙ sym (at_operand (Some file) value table false words x xs plain))

-- ---- the rule

-- what the plain rule makes of words
abbrev pub plain_rule : List Text → Option Said
plain_rule words = option_map (λ project. record { project = project; shooters = setting_of shooters_word words; csv = is_csv words }) (only_operand (codes "run") run_options words)

rule_is : (words : List Text) → plain_rule words ≡ result (is_command (codes "run") run_options words) (operands run_options words) (setting_of shooters_word words) (is_csv words)
rule_is words = go (is_command (codes "run") run_options words) (operands run_options words) refl refl
  where
    go : (b : Bool) (l : List Text) → is_command (codes "run") run_options words ≡ b → operands run_options words ≡ l → plain_rule words ≡ result b l (setting_of shooters_word words) (is_csv words)
    go false l e f = rw e refl
    go true [] e f = rw (e, f) refl
    go true (file ∷ []) e f = rw (e, f) refl
    go true (file ∷ other ∷ l) e f = rw (e, f) refl

abbrev keyword : Text
keyword = codes "run"

at_first : Before (keyword ∷ []) None false false
at_first = record {
  some = omega arith;
  flags = refl;
  settings = refl;
  last = refl;
  known = λ x e. absurd (true≢false (ap (λ (o : Option Text). is_some o) (sym e)));
  awaited = λ e. never e;
}

-- the plain rule of words with the keyword in front, read one at a time
pub plain_says : (words : List Text) → Kinds words → plain_rule (keyword ∷ words) ≡ reading None None false false words
plain_says words kinds =
    let count : suc (length words) - 1 ≡ length words = omega arith in
    rule_is (keyword ∷ words)
    ∙ (ap (λ (n : ℕ). result (list_all (is_argument run_options (keyword ∷ words)) (range_with_len 1 n)) (map (word_at (keyword ∷ words)) (filter (is_own_operand run_options (keyword ∷ words)) (range_with_len 1 n)))
    (setting_of shooters_word (keyword ∷ words)) (is_csv (keyword ∷ words))) count
    ∙ says words kinds (keyword ∷ []) None None false false at_first (λ e. never e))
