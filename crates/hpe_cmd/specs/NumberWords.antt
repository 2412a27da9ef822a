-- What words ask that name an action and a number for one of its options.
use Rattle.std.specs.Prelude.{◌≡◌, ◌≤◌, ◌<◌, ◌^◌, ℕ, List, [], ◌∷◌, Some, None, codes, decimal}
use Rattle.clap.specs.Walk.{Text}
use Rattle.hpe_sim.specs.declared.task.Task.{Task}
use Rattle.hpe_cmd.specs.declared.words.Action.{Action}
use Rattle.hpe_cmd.specs.declared.words.Action.TheVariants.{Encode, Decode, Simulate}
use Rattle.hpe_cmd.specs.Words.{Request, asked}

-- the words `PROGRAM ACTION OPTION VALUE`
abbrev pub option_words : Text → Text → Text → Text → List Text
option_words program action option value = program ∷ action ∷ option ∷ value ∷ []

-- a simulation of one frame with the seed 0, where no pulse is lost and no noise comes
abbrev pub plain_task : Task
plain_task = record { seed = 0; frames = 1; lost = 0; noise = 0 }

-- the built-in profile, with these numbers
abbrev pub plain_request : Action → ℕ → ℕ → Request
plain_request action limit workers =
    record { action = action; profile = None; limit = limit; workers = workers; task = plain_task }

-- a simulation under the built-in profile by one worker
abbrev pub task_request : Task → Request
task_request task = record { action = Simulate; profile = None; limit = 2 ^ 28; workers = 1; task = task }

-- a number in the range of an option is asked by each action that takes it, so such words are never refused
pub record NumbersAreAsked : Type 0 where
  pub encode_limit : (program : Text) (n : ℕ) → 1 ≤ n → n ≤ 2 ^ 40
      → asked (option_words program (codes "encode") (codes "--limit") (decimal n)) ≡ Some (plain_request Encode n 1)
  pub decode_limit : (program : Text) (n : ℕ) → 1 ≤ n → n ≤ 2 ^ 40
      → asked (option_words program (codes "decode") (codes "--limit") (decimal n)) ≡ Some (plain_request Decode n 1)
  pub decode_workers : (program : Text) (n : ℕ) → 1 ≤ n → n ≤ 16
      → asked (option_words program (codes "decode") (codes "--workers") (decimal n))
      ≡ Some (plain_request Decode (2 ^ 40) n)
  pub simulate_limit : (program : Text) (n : ℕ) → 1 ≤ n → n ≤ 2 ^ 28
      → asked (option_words program (codes "simulate") (codes "--limit") (decimal n))
      ≡ Some (plain_request Simulate n 1)
  pub simulate_workers : (program : Text) (n : ℕ) → 1 ≤ n → n ≤ 16
      → asked (option_words program (codes "simulate") (codes "--workers") (decimal n))
      ≡ Some (plain_request Simulate (2 ^ 28) n)
  pub simulate_seed : (program : Text) (n : ℕ) → n < 2 ^ 63
      → asked (option_words program (codes "simulate") (codes "--seed") (decimal n))
      ≡ Some (task_request (record plain_task { seed = n }))
  pub simulate_frames : (program : Text) (n : ℕ) → n < 65536
      → asked (option_words program (codes "simulate") (codes "--frames") (decimal n))
      ≡ Some (task_request (record plain_task { frames = n }))
  pub simulate_lost : (program : Text) (n : ℕ) → n < 65536
      → asked (option_words program (codes "simulate") (codes "--lost") (decimal n))
      ≡ Some (task_request (record plain_task { lost = n }))
  pub simulate_noise : (program : Text) (n : ℕ) → n < 65536
      → asked (option_words program (codes "simulate") (codes "--noise") (decimal n))
      ≡ Some (task_request (record plain_task { noise = n }))
