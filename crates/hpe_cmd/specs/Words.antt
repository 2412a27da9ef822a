-- What the words of a command ask.
use Rattle.std.specs.Prelude.{true, false, ◌≡◌, ◌^◌, ◌-◌, ◌&&◌, ℕ, Bool, List, [], ◌∷◌, Some, None, Option, if◌then◌else◌, nat_lt, nat_le, length, codes, map, fold, string_bytes, String, option_map, option_and_then}
use Rattle.std.specs.Global.{Global}
use Rattle.std.specs.Borrow.{Bor}
use Rattle.std.specs.Str.{bytes_eq}
use Rattle.std.specs.Str.Parse.{digits_value, without_leading_plus}
use Rattle.std.specs.Char.{digit_value}
use Rattle.clap.specs.Walk.{Rule, Row, Text, first_of}
use Rattle.clap.specs.Simple.{App, new_app, new_rule, with_rule, matches_of}
use Rattle.clap.specs.Kinds.{Kinds}
use Rattle.clap.specs.Faults.{fault_of}
use Rattle.clap.specs.declared.builder.value_parser.ValueParser.TheVariants as parser
use Rattle.hpe_sim.specs.declared.task.Task.{Task}
use Rattle.hpe_cmd.specs.declared.words.Action.{Action}
use Rattle.hpe_cmd.specs.declared.words.Action.TheVariants.{Encode, Decode, Geometry, Simulate}
use Rattle.hpe_cmd.specs.declared.words.Asked.{Asked}

-- ---- the command

-- the action, which must be there
abbrev pub action_rule : Rule
action_rule = record (new_rule (codes "action")) { required = true }

-- the option --profile NAME
abbrev pub profile_rule : Rule
profile_rule = record (new_rule (codes "profile")) { long = Some (codes "profile") }

-- the option --limit N, the most octets of an input, or the most slots of a simulation
abbrev pub limit_rule : Rule
limit_rule =
    record (new_rule (codes "limit")) { long = Some (codes "limit"); parser = Some (parser.Unsigned 1 (2 ^ 40)) }

-- the option --workers N, the words that are decoded at once
abbrev pub workers_rule : Rule
workers_rule =
    record (new_rule (codes "workers")) { long = Some (codes "workers"); parser = Some (parser.Unsigned 1 16) }

-- the option --seed N, the seed of a simulation
abbrev pub seed_rule : Rule
seed_rule =
    record (new_rule (codes "seed")) { long = Some (codes "seed"); parser = Some (parser.Unsigned 0 (2 ^ 63 - 1)) }

-- the option --frames N, the frames that a simulation sends
abbrev pub frames_rule : Rule
frames_rule =
    record (new_rule (codes "frames")) { long = Some (codes "frames"); parser = Some (parser.Unsigned 0 65535) }

-- the option --lost N, how many of 65,536 pulses a simulation loses
abbrev pub lost_rule : Rule
lost_rule = record (new_rule (codes "lost")) { long = Some (codes "lost"); parser = Some (parser.Unsigned 0 65535) }

-- the option --noise N, in how many of 65,536 slots a simulation counts noise
abbrev pub noise_rule : Rule
noise_rule = record (new_rule (codes "noise")) { long = Some (codes "noise"); parser = Some (parser.Unsigned 0 65535) }

-- the action and the options
unfoldable pub command : App
command =
    fold with_rule (new_app (codes "hpe"))
    (action_rule ∷ profile_rule ∷ limit_rule ∷ workers_rule ∷ seed_rule ∷ frames_rule ∷ lost_rule ∷ noise_rule ∷ [])

-- ---- values

-- the action of that name
abbrev pub action_of : Text → Option Action
action_of name =
    if bytes_eq name (codes "encode") then Some Encode
    else if bytes_eq name (codes "decode") then Some Decode
    else if bytes_eq name (codes "geometry") then Some Geometry
    else if bytes_eq name (codes "simulate") then Some Simulate
    else None

abbrev pub are_digits : List ℕ → Bool
are_digits [] = true
are_digits (c ∷ cs) = nat_lt (digit_value c) 10 && are_digits cs

-- whether the text is one digit or more, and nothing else
abbrev pub is_numeral : Text → Bool
is_numeral text = nat_lt 0 (length text) && are_digits text

-- the number that a text writes, with a plus before it or without, where it is one of low to high
abbrev pub number_within : ℕ → ℕ → Text → Option ℕ
number_within low high text =
    let digits = without_leading_plus text in
    let value = digits_value 10 digits in
    if is_numeral digits && (nat_le low value && nat_le value high) then Some value else None

-- whether the action takes a limit
abbrev pub takes_limit : Action → Bool
takes_limit Encode = true
takes_limit Decode = true
takes_limit Geometry = false
takes_limit Simulate = true

-- the greatest limit of the action: of octets of an input, or of slots of a simulation
abbrev pub most_of : Action → ℕ
most_of Encode = 2 ^ 40
most_of Decode = 2 ^ 40
most_of Geometry = 2 ^ 40
most_of Simulate = 2 ^ 28

-- whether the action decodes words
abbrev pub takes_workers : Action → Bool
takes_workers Encode = false
takes_workers Decode = true
takes_workers Geometry = false
takes_workers Simulate = true

-- whether the action simulates a link
abbrev pub simulates : Action → Bool
simulates Encode = false
simulates Decode = false
simulates Geometry = false
simulates Simulate = true

-- whether the action reads the input
abbrev pub reads_input : Action → Bool
reads_input Encode = true
reads_input Decode = true
reads_input Geometry = false
reads_input Simulate = false

-- what words ask: the action, the name of the profile where one is given, the most octets of the input or slots of the
-- simulation, the words that are decoded at once, and what is to be simulated
pub record Request : Type 0 where
  pub action : Action
  pub profile : Option Text
  pub limit : ℕ
  pub workers : ℕ
  pub task : Task

-- the number of an option, where the action takes it as it is given: one of low to high, and the default without it
abbrev pub number_of : Bool → ℕ → ℕ → ℕ → Option Text → Option ℕ
number_of takes low high default None = Some default
number_of takes low high default (Some text) = if takes then number_within low high text else None

abbrev pub limit_of : Action → Option Text → Option ℕ
limit_of action text = number_of (takes_limit action) 1 (most_of action) (most_of action) text

abbrev pub workers_of : Action → Option Text → Option ℕ
workers_of action text = number_of (takes_workers action) 1 16 1 text

-- what is to be simulated with these numbers
abbrev pub task_with : Option ℕ → Option ℕ → Option ℕ → Option ℕ → Option Task
task_with (Some seed) (Some frames) (Some lost) (Some noise) =
    Some (record { seed = seed; frames = frames; lost = lost; noise = noise })
task_with _ _ _ _ = None

-- what is to be simulated by the values of the command's arguments, each given by its name
abbrev pub task_of : Action → (Text → Option Text) → Option Task
task_of action given =
    task_with
    (number_of (simulates action) 0 (2 ^ 63 - 1) 0 (given (codes "seed")))
    (number_of (simulates action) 0 65535 1 (given (codes "frames")))
    (number_of (simulates action) 0 65535 0 (given (codes "lost")))
    (number_of (simulates action) 0 65535 0 (given (codes "noise")))

-- what an action asks with these numbers, where it takes each
abbrev pub request_with : Action → Option Text → Option ℕ → Option ℕ → Option Task → Option Request
request_with action profile (Some limit) (Some workers) (Some task) =
    Some (record { action = action; profile = profile; limit = limit; workers = workers; task = task })
request_with action profile _ _ _ = None

-- what the values of the command's arguments ask, each given by its name
abbrev pub request_for : Option Action → (Text → Option Text) → Option Request
request_for None given = None
request_for (Some action) given =
    request_with action (given (codes "profile"))
    (limit_of action (given (codes "limit")))
    (workers_of action (given (codes "workers")))
    (task_of action given)

abbrev pub request_of : (Text → Option Text) → Option Request
request_of given = request_for (option_and_then action_of (given (codes "action"))) given

-- what is asked where the command has these faults in the words and these rows
abbrev pub request_without : Kinds → List Row → Option Request
request_without [] rows = request_of (λ name. first_of name rows)
request_without (k ∷ ks) rows = None

-- what the words ask; it is nothing where the command doesn't take them, no action is so named or the action doesn't
-- take an option
unfoldable pub asked : List Text → Option Request
asked words = request_without (fault_of command words) (matches_of command words)

-- ---- as the program holds them

abbrev pub texts_of : List (String Global) → List Text
texts_of words = map (λ w. string_bytes w) words

-- the words ask for this
abbrev pub Asks : List (String Global) → Request → Type 0
Asks words request = asked (texts_of words) ≡ Some request

-- the words ask for nothing
abbrev pub AsksNothing : List (String Global) → Type 0
AsksNothing words = asked (texts_of words) ≡ None

-- the text behind a reference that there may be
abbrev pub text_behind : Option (Bor Text) → Option Text
text_behind text = option_map (λ s. s.now) text

-- what was read of the words
abbrev pub request_read : Asked → Request
request_read a =
    record { action = a.action; profile = text_behind a.profile; limit = a.limit; workers = a.workers; task = a.task }
