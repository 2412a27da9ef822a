-- The edges of a stage without a list of them: the best of them, and how each is told in two parts. A block of eight
-- symbols has the first bits in common, and the last three bits count from 0 on or from 1 on, as the last of the first
-- bits is.
use Rattle.std.specs.Prelude.{if◌then◌else◌, ◌==◌, ◌≡◌, ℕ, ◌+◌, ◌-◌, ◌*◌, ◌/◌, ◌%◌, ◌^◌, ◌<◌, ◌≤◌, ℤ, pos, ◌+ℤ◌, List, length, slice_index}
use Rattle.std.specs.Int.{int_max}
use Rattle.hpe_base.specs.Greatest.{IsGreatest}
use Rattle.hpe_base.specs.Parameters.{clamp}
use Rattle.hpe_base.specs.Sizes.{number_at, AllWithin}
use Rattle.hpe_lane.specs.Edges.{gray_from}

-- the size of a forward row to whose numbers that of an input bit is added
abbrev pub entry_most : ℕ
entry_most = 1099983617

-- what symbol v scores in state p, with the counts and the numbers of one stage
abbrev pub stage_edge : List ℕ → List ℤ → ℕ → ℕ → ℤ
stage_edge counts l p v = pos (slice_index counts v) +ℤ gray_from p l v

-- the best edges of a stage of m input bits by the first and the last bit of the symbol
abbrev pub AreBestEdges : ℕ → (ℕ → ℤ) → List ℤ → Type 0
AreBestEdges m edge best =
    (f b : ℕ) → f < 2 → b < 2 → IsGreatest (λ (v : ℕ). (v < 2 ^ m) × ((v / 2 ^ (m - 1) ≡ f) × (v % 2 ≡ b))) edge
    (number_at best (2 * f + b))

-- lane j of block w, from the other end where the block is odd
abbrev pub turned_lane : ℕ → ℕ → ℕ
turned_lane w j = if w % 2 == 0 then j else 7 - j

-- what symbol v scores by the numbers
abbrev pub part_sum : List ℤ → List ℤ → ℕ → ℤ
part_sum blocks eight v = number_at blocks (v / 8) +ℤ number_at eight (turned_lane (v / 8) (v % 8))

-- and with its count
abbrev pub part_edge : List ℕ → List ℤ → List ℤ → ℕ → ℤ
part_edge counts blocks eight v = pos (slice_index counts v) +ℤ part_sum blocks eight v

-- counts for each block of eight, and the sizes of what the first five bits score and the last three
pub record AreParts (counts : List ℕ) (blocks eight : List ℤ) : Type 0 where
  pub long : length counts ≡ 8 * length blocks
  pub eight_long : length eight ≡ 8
  pub most : (v : ℕ) → slice_index counts v ≤ clamp
  pub small : AllWithin (5 * clamp) blocks
  pub small_eight : AllWithin (3 * clamp) eight

-- at place v of n the greater of that edge of state 0 and of its mirror image of state 1, with what stands around them
abbrev pub joint_edge : ℕ → (ℕ → ℕ → ℤ) → List ℤ → List ℤ → ℕ → ℤ
joint_edge n edge around0 around1 v =
    int_max (number_at around0 (v % 2) +ℤ edge 0 v) (number_at around1 (v % 2) +ℤ edge 1 (n - 1 - v))

-- the same in parts: the mirror image has the same sum with its own count
abbrev pub joint_part : List ℕ → List ℤ → List ℤ → List ℤ → List ℤ → ℕ → ℤ
joint_part counts blocks eight around0 around1 v =
    int_max (number_at around0 (v % 2) +ℤ part_edge counts blocks eight v)
    (number_at around1 (v % 2) +ℤ (pos (slice_index counts (length counts - 1 - v)) +ℤ part_sum blocks eight v))
