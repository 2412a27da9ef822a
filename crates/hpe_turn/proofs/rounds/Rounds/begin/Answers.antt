use Rattle.std.proofs.Common.{◌≡◌, ◌∙◌, arith, ap, replicate, pos, ℕ}
use Rattle.std.specs.Prelude.{vec_len}
use Rattle.hpe_base.specs.Parameters.{codeword_bits}
use Rattle.hpe_turn.proofs.rounds.Rounds.begin.Goals as goal

pub returns-clause-numbers : goal.returns-clause-numbers
returns-clause-numbers c =
    let lists = c.args.self.now in
    let long : vec_len lists.numbers ≡ codeword_bits = omega (arith, lists.numbers.ok.0, lists.room.long_numbers) in
    c.fill.ensures.items (λ y e. e) ∙ ap (λ (n : ℕ). replicate n (pos 0)) long
