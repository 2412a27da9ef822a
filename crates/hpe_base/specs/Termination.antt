-- What enters the convolutional code for a block.
use Rattle.std.specs.Prelude.{ℕ, List, [], ◌∷◌, ◌++◌}
use Rattle.hpe_base.specs.Parameters.{Parameters}
use Rattle.hpe_base.specs.Randomiser.{randomised}
use Rattle.hpe_base.specs.Check.{check_bits}

-- the bits and two zeros, which end the code in its first state
abbrev pub terminated : List ℕ → List ℕ
terminated bits = bits ++ 0 ∷ 0 ∷ []

-- the block randomised and the check of that, terminated
abbrev pub closed_block : Parameters → List ℕ → List ℕ
closed_block p block =
    let mixed = randomised p block in
    mixed ++ check_bits p.check mixed ++ 0 ∷ 0 ∷ []
