-- A closed block from its parts.
use Rattle.std.proofs.Common.{◌≡◌, ◌<◌, ◌++◌, ℕ, List, [], ◌∷◌, sym, append_assoc, subst, replicate}
use Rattle.std.proofs.lemmas.List.Elements.{All-append}
use Rattle.hpe_base.specs.Bits.{AreBits}
use Rattle.hpe_base.proofs.Shapes.{are_bits-two_zeros}

-- the parts, one after another, are the closed block
pub closed : (mixed mixed' check check' : List ℕ) (size : ℕ) → mixed ≡ mixed' → check ≡ check' → size ≡ 2 →
    mixed ++ (check ++ replicate size 0) ≡ mixed' ++ check' ++ 0 ∷ 0 ∷ []
closed mixed mixed' check check' size m c h = rw (m, c, h) (sym (append_assoc mixed' check' (0 ∷ 0 ∷ [])))

-- a closed block is bits
pub closed_bits : (mixed check : List ℕ) (size : ℕ) → AreBits mixed → AreBits check → size ≡ 2 → AreBits (mixed ++ (check ++ replicate size 0))
closed_bits mixed check size m c h =
    All-append (λ b. b < 2) mixed _ m (All-append (λ b. b < 2) check _ c (subst (λ n. AreBits (replicate n 0)) (sym h) are_bits-two_zeros))
