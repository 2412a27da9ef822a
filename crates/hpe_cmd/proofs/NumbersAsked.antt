-- A number in the range of an option is asked as it is written.
use Rattle.std.proofs.Common.{◌≡◌, ◌==◌, ◌∙◌, ◌^◌, ◌-◌, ◌<◌, ◌≤◌, ℕ, List, [], ◌∷◌, true, false, Some, None, Option, refl, sym, ap, ap₂, subst, arith, codes, decimal}
use Rattle.std.proofs.lemmas.Bool.{ne_eqb}
use Rattle.std.proofs.lemmas.Fmt.{decimal_is_IsNumeral}
use Rattle.std.specs.Char.{digit_value}
use Rattle.std.specs.Str.Parse.{IsNumeral, digits_value, without_leading_plus}
use Rattle.clap.specs.Faults.{fault_of}
use Rattle.clap.specs.Kinds.{Kinds, or_else, value_kinds}
use Rattle.clap.specs.Simple.{matches_of}
use Rattle.clap.specs.ValueTests.{accepts}
use Rattle.clap.specs.Walk.{Row, Rule, Text, reading_by}
use Rattle.clap.specs.declared.builder.value_parser.ValueParser.TheVariants as parser
use Rattle.clap.specs.declared.parser.matches.ValueSource.TheVariants.{CommandLine}
use Rattle.clap.proofs.OnLiterals.{clap_on_literals}
use Rattle.clap.proofs.ValueTestLemmas.{Accepts-accepts}
use Rattle.hpe_cmd.specs.declared.words.Action.TheVariants.{Encode, Decode, Simulate}
use Rattle.hpe_cmd.specs.NumberWords.{NumbersAreAsked, option_words, plain_task}
use Rattle.hpe_cmd.specs.Words.{Request, action_rule, asked, command, frames_rule, limit_rule, lost_rule, noise_rule, number_within, request_with, request_without, seed_rule, task_with, workers_rule}
use Rattle.hpe_cmd.proofs.Numbers.{number_taken}

-- ---- the number

-- a digit is no sign
no_sign : (c sign : ℕ) → digit_value c < 10 → (digit_value sign < 10 → ⊥) → (c == sign) ≡ false
no_sign c sign digit other = ne_eqb c sign (λ same. other (subst (λ x. digit_value x < 10) same digit))

-- a numeral has no plus before it
no_plus : (text : Text) → IsNumeral 10 text → without_leading_plus text ≡ text
no_plus [] numeral = refl
no_plus (c ∷ cs) numeral = rw (no_sign c 43 numeral.1.0 (λ digit. omega (arith, digit))) refl

-- what is told of a decimal number where a plus could stand before it
written : (n : ℕ) → n < 2 ^ 64
    → IsNumeral 10 (without_leading_plus (decimal n)) × (digits_value 10 (without_leading_plus (decimal n)) ≡ n)
written n fits =
    let told = decimal_is_IsNumeral n fits in
    let same : without_leading_plus (decimal n) ≡ decimal n = no_plus (decimal n) told.0 in
    (subst (IsNumeral 10) (sym same) told.0, ap (digits_value 10) same ∙ told.1)

-- a number in the range is read as it is written
number_within-decimal : (low high n : ℕ) → low ≤ n → n ≤ high → n < 2 ^ 64
    → number_within low high (decimal n) ≡ Some n
number_within-decimal low high n above below fits =
    sym (number_taken low high n (decimal n) (written n fits).0 (sym (written n fits).1) above below)

-- and the command takes it
accepted : (low high n : ℕ) → low ≤ n → n ≤ high → n < 2 ^ 64
    → value_kinds false (parser.Unsigned low high) (decimal n) ≡ []
accepted low high n above below fits =
    let value : digits_value 10 (without_leading_plus (decimal n)) ≡ n = (written n fits).1 in
    let taken : accepts false (parser.Unsigned low high) (decimal n) ≡ true =
    Accepts-accepts false (parser.Unsigned low high) (decimal n)
    ((written n fits).0, omega (arith, value, fits), omega (arith, value, above), omega (arith, value, below)) in
    rw taken refl

-- ---- the words

-- one cause is found alone
alone : (ks : Kinds) → ks ≡ [] → or_else (or_else ks []) [] ≡ []
alone ks none = ap (λ l. or_else (or_else l []) []) none

-- what is found of an argument that has this value
abbrev given_row : Rule → Text → Row
given_row rule value = record {
  id = rule.id;
  values = value ∷ [];
  count = None;
  source = Some CommandLine;
  reading = reading_by rule;
}

-- and of an action and one option
abbrev given_rows : Text → Rule → Text → List Row
given_rows action rule value = given_row action_rule action ∷ given_row rule value ∷ []

-- words without a fault
asked_of : (words : List Text) (rows : List Row) → fault_of command words ≡ [] → matches_of command words ≡ rows
    → asked words ≡ request_without [] rows
unfolding asked
asked_of words rows none found = ap₂ request_without none found

-- a simulation by these numbers, with the rest as it is by default
abbrev tasked_with : Option ℕ → Option ℕ → Option ℕ → Option ℕ → Option Request
tasked_with seed frames lost noise =
    request_with Simulate None (Some (2 ^ 28)) (Some 1) (task_with seed frames lost noise)

-- words with an option's number that begins with no hyphen ask that number where the command takes it
encode_limit : (program : Text) (c : ℕ) (cs : List ℕ) → (c == 45) ≡ false
    → value_kinds false (parser.Unsigned 1 (2 ^ 40)) (c ∷ cs) ≡ []
    → asked (option_words program (codes "encode") (codes "--limit") (c ∷ cs))
    ≡ request_with Encode None (number_within 1 (2 ^ 40) (c ∷ cs)) (Some 1) (Some plain_task)
unfolding command clap_on_literals
encode_limit program c cs plain none =
    asked_of (option_words program (codes "encode") (codes "--limit") (c ∷ cs))
    (given_rows (codes "encode") limit_rule (c ∷ cs))
    (rw (plain, plain) (alone (value_kinds false (parser.Unsigned 1 (2 ^ 40)) (c ∷ cs)) none))
    (rw (plain, plain) refl)

decode_limit : (program : Text) (c : ℕ) (cs : List ℕ) → (c == 45) ≡ false
    → value_kinds false (parser.Unsigned 1 (2 ^ 40)) (c ∷ cs) ≡ []
    → asked (option_words program (codes "decode") (codes "--limit") (c ∷ cs))
    ≡ request_with Decode None (number_within 1 (2 ^ 40) (c ∷ cs)) (Some 1) (Some plain_task)
unfolding command clap_on_literals
decode_limit program c cs plain none =
    asked_of (option_words program (codes "decode") (codes "--limit") (c ∷ cs))
    (given_rows (codes "decode") limit_rule (c ∷ cs))
    (rw (plain, plain) (alone (value_kinds false (parser.Unsigned 1 (2 ^ 40)) (c ∷ cs)) none))
    (rw (plain, plain) refl)

decode_workers : (program : Text) (c : ℕ) (cs : List ℕ) → (c == 45) ≡ false
    → value_kinds false (parser.Unsigned 1 16) (c ∷ cs) ≡ []
    → asked (option_words program (codes "decode") (codes "--workers") (c ∷ cs))
    ≡ request_with Decode None (Some (2 ^ 40)) (number_within 1 16 (c ∷ cs)) (Some plain_task)
unfolding command clap_on_literals
decode_workers program c cs plain none =
    asked_of (option_words program (codes "decode") (codes "--workers") (c ∷ cs))
    (given_rows (codes "decode") workers_rule (c ∷ cs))
    (rw (plain, plain) (alone (value_kinds false (parser.Unsigned 1 16) (c ∷ cs)) none))
    (rw (plain, plain) refl)

simulate_limit : (program : Text) (c : ℕ) (cs : List ℕ) → (c == 45) ≡ false
    → value_kinds false (parser.Unsigned 1 (2 ^ 40)) (c ∷ cs) ≡ []
    → asked (option_words program (codes "simulate") (codes "--limit") (c ∷ cs))
    ≡ request_with Simulate None (number_within 1 (2 ^ 28) (c ∷ cs)) (Some 1) (Some plain_task)
unfolding command clap_on_literals
simulate_limit program c cs plain none =
    asked_of (option_words program (codes "simulate") (codes "--limit") (c ∷ cs))
    (given_rows (codes "simulate") limit_rule (c ∷ cs))
    (rw (plain, plain) (alone (value_kinds false (parser.Unsigned 1 (2 ^ 40)) (c ∷ cs)) none))
    (rw (plain, plain) refl)

simulate_workers : (program : Text) (c : ℕ) (cs : List ℕ) → (c == 45) ≡ false
    → value_kinds false (parser.Unsigned 1 16) (c ∷ cs) ≡ []
    → asked (option_words program (codes "simulate") (codes "--workers") (c ∷ cs))
    ≡ request_with Simulate None (Some (2 ^ 28)) (number_within 1 16 (c ∷ cs)) (Some plain_task)
unfolding command clap_on_literals
simulate_workers program c cs plain none =
    asked_of (option_words program (codes "simulate") (codes "--workers") (c ∷ cs))
    (given_rows (codes "simulate") workers_rule (c ∷ cs))
    (rw (plain, plain) (alone (value_kinds false (parser.Unsigned 1 16) (c ∷ cs)) none))
    (rw (plain, plain) refl)

simulate_seed : (program : Text) (c : ℕ) (cs : List ℕ) → (c == 45) ≡ false
    → value_kinds false (parser.Unsigned 0 (2 ^ 63 - 1)) (c ∷ cs) ≡ []
    → asked (option_words program (codes "simulate") (codes "--seed") (c ∷ cs))
    ≡ tasked_with (number_within 0 (2 ^ 63 - 1) (c ∷ cs)) (Some 1) (Some 0) (Some 0)
unfolding command clap_on_literals
simulate_seed program c cs plain none =
    asked_of (option_words program (codes "simulate") (codes "--seed") (c ∷ cs))
    (given_rows (codes "simulate") seed_rule (c ∷ cs))
    (rw (plain, plain) (alone (value_kinds false (parser.Unsigned 0 (2 ^ 63 - 1)) (c ∷ cs)) none))
    (rw (plain, plain) refl)

simulate_frames : (program : Text) (c : ℕ) (cs : List ℕ) → (c == 45) ≡ false
    → value_kinds false (parser.Unsigned 0 65535) (c ∷ cs) ≡ []
    → asked (option_words program (codes "simulate") (codes "--frames") (c ∷ cs))
    ≡ tasked_with (Some 0) (number_within 0 65535 (c ∷ cs)) (Some 0) (Some 0)
unfolding command clap_on_literals
simulate_frames program c cs plain none =
    asked_of (option_words program (codes "simulate") (codes "--frames") (c ∷ cs))
    (given_rows (codes "simulate") frames_rule (c ∷ cs))
    (rw (plain, plain) (alone (value_kinds false (parser.Unsigned 0 65535) (c ∷ cs)) none))
    (rw (plain, plain) refl)

simulate_lost : (program : Text) (c : ℕ) (cs : List ℕ) → (c == 45) ≡ false
    → value_kinds false (parser.Unsigned 0 65535) (c ∷ cs) ≡ []
    → asked (option_words program (codes "simulate") (codes "--lost") (c ∷ cs))
    ≡ tasked_with (Some 0) (Some 1) (number_within 0 65535 (c ∷ cs)) (Some 0)
unfolding command clap_on_literals
simulate_lost program c cs plain none =
    asked_of (option_words program (codes "simulate") (codes "--lost") (c ∷ cs))
    (given_rows (codes "simulate") lost_rule (c ∷ cs))
    (rw (plain, plain) (alone (value_kinds false (parser.Unsigned 0 65535) (c ∷ cs)) none))
    (rw (plain, plain) refl)

simulate_noise : (program : Text) (c : ℕ) (cs : List ℕ) → (c == 45) ≡ false
    → value_kinds false (parser.Unsigned 0 65535) (c ∷ cs) ≡ []
    → asked (option_words program (codes "simulate") (codes "--noise") (c ∷ cs))
    ≡ tasked_with (Some 0) (Some 1) (Some 0) (number_within 0 65535 (c ∷ cs))
unfolding command clap_on_literals
simulate_noise program c cs plain none =
    asked_of (option_words program (codes "simulate") (codes "--noise") (c ∷ cs))
    (given_rows (codes "simulate") noise_rule (c ∷ cs))
    (rw (plain, plain) (alone (value_kinds false (parser.Unsigned 0 65535) (c ∷ cs)) none))
    (rw (plain, plain) refl)

-- what is asked by an option's numeral
abbrev Asks : ℕ → ℕ → ℕ → (Text → List Text) → (Option ℕ → Option Request) → Type 0
Asks low top high words request =
    (c : ℕ) (cs : List ℕ) → (c == 45) ≡ false → value_kinds false (parser.Unsigned low top) (c ∷ cs) ≡ []
    → asked (words (c ∷ cs)) ≡ request (number_within low high (c ∷ cs))

numeral_asked : (low top high : ℕ) (words : Text → List Text) (request : Option ℕ → Option Request) (text : Text)
    → Asks low top high words request → IsNumeral 10 text → value_kinds false (parser.Unsigned low top) text ≡ []
    → asked (words text) ≡ request (number_within low high text)
numeral_asked low top high words request [] asks numeral none = absurd (omega (arith, numeral.0))
numeral_asked low top high words request (c ∷ cs) asks numeral none =
    asks c cs (no_sign c 45 numeral.1.0 (λ digit. omega (arith, digit))) none

-- and by a number in its range
number_asked : (low top high n : ℕ) (words : Text → List Text) (request : Option ℕ → Option Request)
    → Asks low top high words request → top < 2 ^ 64 → high ≤ top → low ≤ n → n ≤ high
    → asked (words (decimal n)) ≡ request (Some n)
number_asked low top high n words request asks few within above below =
    let fits : n < 2 ^ 64 = omega (arith, few, within, below) in
    let most : n ≤ top = omega (arith, within, below) in
    numeral_asked low top high words request (decimal n) asks (decimal_is_IsNumeral n fits).0
    (accepted low top n above most fits)
    ∙ ap request (number_within-decimal low high n above below fits)

pub numbers_are_asked : NumbersAreAsked
numbers_are_asked = record {
  encode_limit = λ program n above below.
      number_asked 1 (2 ^ 40) (2 ^ 40) n (option_words program (codes "encode") (codes "--limit"))
      (λ number. request_with Encode None number (Some 1) (Some plain_task)) (encode_limit program)
      (omega arith) (omega arith) above below;
  decode_limit = λ program n above below.
      number_asked 1 (2 ^ 40) (2 ^ 40) n (option_words program (codes "decode") (codes "--limit"))
      (λ number. request_with Decode None number (Some 1) (Some plain_task)) (decode_limit program)
      (omega arith) (omega arith) above below;
  decode_workers = λ program n above below.
      number_asked 1 16 16 n (option_words program (codes "decode") (codes "--workers"))
      (λ number. request_with Decode None (Some (2 ^ 40)) number (Some plain_task)) (decode_workers program)
      (omega arith) (omega arith) above below;
  simulate_limit = λ program n above below.
      number_asked 1 (2 ^ 40) (2 ^ 28) n (option_words program (codes "simulate") (codes "--limit"))
      (λ number. request_with Simulate None number (Some 1) (Some plain_task)) (simulate_limit program)
      (omega arith) (omega arith) above below;
  simulate_workers = λ program n above below.
      number_asked 1 16 16 n (option_words program (codes "simulate") (codes "--workers"))
      (λ number. request_with Simulate None (Some (2 ^ 28)) number (Some plain_task)) (simulate_workers program)
      (omega arith) (omega arith) above below;
  simulate_seed = λ program n below.
      number_asked 0 (2 ^ 63 - 1) (2 ^ 63 - 1) n (option_words program (codes "simulate") (codes "--seed"))
      (λ number. tasked_with number (Some 1) (Some 0) (Some 0)) (simulate_seed program)
      (omega arith) (omega arith) (omega arith) (omega (arith, below));
  simulate_frames = λ program n below.
      number_asked 0 65535 65535 n (option_words program (codes "simulate") (codes "--frames"))
      (λ number. tasked_with (Some 0) number (Some 0) (Some 0)) (simulate_frames program)
      (omega arith) (omega arith) (omega arith) (omega (arith, below));
  simulate_lost = λ program n below.
      number_asked 0 65535 65535 n (option_words program (codes "simulate") (codes "--lost"))
      (λ number. tasked_with (Some 0) (Some 1) number (Some 0)) (simulate_lost program)
      (omega arith) (omega arith) (omega arith) (omega (arith, below));
  simulate_noise = λ program n below.
      number_asked 0 65535 65535 n (option_words program (codes "simulate") (codes "--noise"))
      (λ number. tasked_with (Some 0) (Some 1) (Some 0) number) (simulate_noise program)
      (omega arith) (omega arith) (omega arith) (omega (arith, below));
}
