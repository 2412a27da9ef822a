-- The inner code as a trellis, and what sweeps over it hold. The state is the last bit that the accumulator gave, and
-- the input of a stage is its symbol, of m bits.
use Rattle.std.specs.Prelude.{if◌then◌else◌, ◌==◌, ◌≡◌, ℕ, ◌+◌, ◌-◌, ◌*◌, ◌/◌, ◌%◌, ◌^◌, ◌<◌, ◌≤◌, ℤ, pos, negsuc, ◌-ℤ◌, ◌≤ℤ◌, Some, List, [], length, slice_index, slice_index_or, take, drop}
use Rattle.hpe_base.proofs.Trellis.{Fore, Back}
use Rattle.hpe_base.specs.Sizes.{number_at, Within, AllWithin}
use Rattle.hpe_base.specs.GreatestScores.{inner_top}
use Rattle.hpe_base.specs.declared.profile.Order.{Order}
use Rattle.hpe_lane.specs.Parts.{AreBestEdges, entry_most, stage_edge}
use Rattle.hpe_lane.specs.Windows.{window, windows}
use Rattle.hpe_base.specs.Parameters.{clamp, symbol_bits, positions, codeword_bits}

-- what symbol v scores in state p at stage t of a word
abbrev pub inner_edge : ℕ → List ℕ → List ℤ → ℕ → ℕ → ℕ → ℤ
inner_edge m counts l t p v = stage_edge (take (2 ^ m) (drop (t * 2 ^ m) counts)) (take m (drop (t * m) l)) p v

-- the last bit of the symbol
abbrev pub inner_next : ℕ → ℕ → ℕ
inner_next p v = v % 2

-- a word starts in state 0: state 1 weighs less than any word can gain
abbrev pub inner_start : ℕ → ℤ
inner_start q = if q == 0 then pos 0 else negsuc 1073741823

-- the sizes of a row before stage t, where an edge scores at most `most`
abbrev pub RowWithin : ℕ → ℕ → List ℤ → Type 0
RowWithin most t row = Within (t * most) (number_at row 0) × (number_at row 1 ≤ℤ pos (t * most)) × Within entry_most (number_at row 1)

-- the greatest size of a word's score: the clamp for each bit of a codeword, and for each symbol, of two bits at least
abbrev pub score_most : ℕ
score_most = (codeword_bits / 2 + codeword_bits) * clamp

-- how far the scores of two words lie apart: a count is never below 0, a number may be
abbrev pub apart_most : ℕ
apart_most = (codeword_bits / 2 + 2 * codeword_bits) * clamp

-- what a sweep runs over: the counts and the numbers of so many symbols, whose scores are not too large
pub record IsSweepable (o : Order) (symbols : ℕ) (counts : List ℕ) (l : List ℤ) : Type 0 where
  pub counts_long : length counts ≡ symbols * positions o
  pub l_long : length l ≡ symbols * symbol_bits o
  pub short : symbols * ((symbol_bits o + 1) * clamp) ≤ score_most
  pub most : (i : ℕ) → slice_index counts i ≤ clamp
  pub within : AllWithin clamp l

-- the row before stage t: each number is the greatest of all runs that end in its state
pub record IsForwardRow (m t : ℕ) (counts : List ℕ) (l : List ℤ) (row : List ℤ) : Type 0 where
  pub top : (q : ℕ) → q < 2 → Fore (2 ^ m) 2 (inner_edge m counts l) inner_next inner_start t q (number_at row q)
  pub small : RowWithin ((m + 1) * clamp) t row

-- the backward row before stage t, with `left` stages from there on
pub record BackRow (m t left : ℕ) (counts : List ℕ) (l : List ℤ) (row : List ℤ) : Type 0 where
  pub top : (q : ℕ) → q < 2 → Back (2 ^ m) (inner_edge m counts l) inner_next (λ s. pos 0) t left q (number_at row q)

-- the same of a word of n symbols
abbrev pub IsBackwardRow : ℕ → ℕ → ℕ → List ℕ → List ℤ → List ℤ → Type 0
IsBackwardRow m t n counts l row = BackRow m t (n - t) counts l row

-- the rows before `count` stages from `start` on
abbrev pub AreForwardRows : ℕ → ℕ → ℕ → List ℕ → List ℤ → List (List ℤ) → Type 0
AreForwardRows m start count counts l rows =
    (i : ℕ) → i < count → IsForwardRow m (start + i) counts l (slice_index_or rows i [])

-- the row before each window of a word of n symbols
abbrev pub AreKeptRows : ℕ → ℕ → List ℕ → List ℤ → List (List ℤ) → Type 0
AreKeptRows m n counts l kept =
    (w : ℕ) → w < windows n → IsForwardRow m (window * w) counts l (slice_index_or kept w [])

-- the best edges of a stage in the first four of its places, where it has so many
abbrev pub KeepsEdges : List ℕ → List ℤ → List ℤ → Type 0
KeepsEdges counts l places = 4 ≤ length l → AreBestEdges (length l) (stage_edge counts l 0) places

-- the same of the stages of a word from `first` up to `end`
abbrev pub AreEdgesKept : ℕ → ℕ → ℕ → List ℕ → List ℤ → List ℤ → Type 0
AreEdgesKept m first end counts l out =
    4 ≤ m → (t : ℕ) → first ≤ t → t < end → AreBestEdges m (inner_edge m counts l t 0) (take m (drop (t * m) out))

-- the greatest score of the words with a 1 at place j less that of the words with a 0
pub record IsSoftAt (o : Order) (counts : List ℕ) (l : List ℤ) (j : ℕ) (soft : ℤ) : Type 0 where
  pub one : ℤ
  pub zero : ℤ
  pub top_one : inner_top o counts l j 1 ≡ Some one
  pub top_zero : inner_top o counts l j 0 ≡ Some zero
  pub value : soft ≡ one -ℤ zero

-- the soft values of the bits of the symbols from `first` up to `end`
abbrev pub AreSoft : Order → ℕ → ℕ → List ℕ → List ℤ → List ℤ → Type 0
AreSoft o first end counts l out =
    (t i : ℕ) → first ≤ t → t < end → i < symbol_bits o
    → IsSoftAt o counts l (t * symbol_bits o + i) (number_at out (t * symbol_bits o + i))

-- the numbers of the m bits of each symbol from `first` up to `end`, as they were
abbrev pub AreSame : ℕ → ℕ → ℕ → List ℤ → List ℤ → Type 0
AreSame m first end old new =
    (t i : ℕ) → first ≤ t → t < end → i < m → number_at new (t * m + i) ≡ number_at old (t * m + i)
