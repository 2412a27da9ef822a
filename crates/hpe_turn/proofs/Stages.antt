-- The trellis stages of rounds: each of s symbols and t steps three times.
use Rattle.std.proofs.Common.{◌≡◌, ◌+◌, ◌*◌, ◌<◌, ◌≤◌, ℕ, arith}
use Rattle.hpe_base.proofs.Pieces.{piece_within}

-- one round more fits
pub one_round : (before rounds start now s t : ℕ) → before < rounds → now ≡ start + before * (3 * (s + t)) → now + 3 * s + 3 * t ≤ start + rounds * (3 * (s + t))
one_round before rounds start now s t h c = let w = piece_within rounds (3 * (s + t)) before h in omega arith

-- and counts
pub rounds_so_far : (before start now s t : ℕ) → now ≡ start + before * (3 * (s + t)) → now + 3 * s + 3 * t ≡ start + (before + 1) * (3 * (s + t))
rounds_so_far before start now s t c =
    let w : (before + 1) * (3 * (s + t)) ≡ before * (3 * (s + t)) + 3 * (s + t) = grind arith in omega arith
