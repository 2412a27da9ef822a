-- The trellis stages of the rounds on a word.
use Rattle.std.specs.Prelude.{ℕ, ◌+◌, ◌*◌}
use Rattle.hpe_base.specs.Parameters.{Parameters, codeword_symbols, code_steps}
use Rattle.hpe_turn.specs.declared.verdict.Verdict as answer
use Rattle.hpe_turn.specs.declared.verdict.Verdict.TheVariants.{Kept, Lost}

-- of a round: each symbol and each step three times
abbrev pub round_stages : Parameters → ℕ
round_stages p = 3 * (codeword_symbols p.order + code_steps p.rate)

-- the rounds that were made on a word: up to the one in which it was kept, or all
abbrev pub rounds_made : Parameters → answer.Verdict → ℕ
rounds_made p (Kept round) = round
rounds_made p Lost = p.rounds
