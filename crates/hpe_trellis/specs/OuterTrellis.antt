-- The outer code as a trellis that starts and ends in state 0.
use Rattle.std.specs.Prelude.{◌≡◌, ℕ, zero, suc, ◌+◌, ◌*◌, ◌%◌, ◌<◌, ◌≤◌, if◌then◌else◌, Bool, ℤ, pos, negsuc, List, [], ◌∷◌, length, drop, slice_index_or, slice_set, IsSome}
use Rattle.hpe_base.specs.Parameters.{clamp, codeword_bits}
use Rattle.hpe_base.specs.Sizes.{number_at, AllWithin}
use Rattle.hpe_base.specs.ConvolutionalCode.{selected, AreColumns}
use Rattle.hpe_base.specs.PathScores.{chosen_sum}
use Rattle.hpe_base.specs.GreatestScores.{information_top, code_top}
use Rattle.hpe_base.specs.SoftValues.{information_soft_value, code_soft_value}
use Rattle.hpe_base.proofs.Trellis.{Fore, Back}
use Rattle.hpe_lane.specs.OuterStage.{outer_next, edge_outputs}
use Rattle.hpe_lane.specs.Windows.{window, windows, sweep_rows}

-- the rows that the recursions over so many steps need
abbrev pub outer_rows : ℕ → ℕ
outer_rows = sweep_rows

-- the puncturing column of step t; the columns serve in turn
abbrev pub column : List (List Bool) → ℕ → List Bool
column columns t = slice_index_or columns (t % length columns) []

-- how many outputs step t keeps
abbrev pub width : List (List Bool) → ℕ → ℕ
width columns t = length (selected (column columns t) (0 ∷ 0 ∷ 0 ∷ []))

-- how many code bits are kept before step t
abbrev pub kept_before : List (List Bool) → ℕ → ℕ
kept_before columns zero = 0
kept_before columns (suc t) = kept_before columns t + width columns t

-- what input x scores at step t in state p
abbrev pub outer_edge : List (List Bool) → List ℤ → ℕ → ℕ → ℕ → ℤ
outer_edge columns l t p x = chosen_sum (drop (kept_before columns t) l) (selected (column columns t) (edge_outputs p x))

-- what a path scores for its first state, and for its last: so little for another than state 0 that it is never best
abbrev pub outer_start : ℕ → ℤ
outer_start zero = pos 0
outer_start (suc q) = negsuc 499999999

-- the row before step t: at each state, the greatest score of the paths that lead there
pub record OuterFore (t : ℕ) (columns : List (List Bool)) (l : List ℤ) (row : List ℤ) : Type 0 where
  pub top : (q : ℕ) → q < 4 → Fore 2 4 (outer_edge columns l) outer_next outer_start t q (number_at row q)

-- the row before step t: at each state, the greatest score of the paths from there on, of so many steps
pub record OuterBack (t left : ℕ) (columns : List (List Bool)) (l : List ℤ) (row : List ℤ) : Type 0 where
  pub top : (q : ℕ) → q < 4 → Back 2 (outer_edge columns l) outer_next outer_start t left q (number_at row q)

-- what the recursions run over: columns of three flags, and a number for each code bit that they keep
pub record IsOuterWord (columns : List (List Bool)) (l : List ℤ) : Type 0 where
  pub are_columns : AreColumns columns
  pub three : (i : ℕ) → i < length columns → length (slice_index_or columns i []) ≡ 3
  pub short : length l ≤ codeword_bits
  pub within : AllWithin clamp l

-- a word, and how long the lists for its n information bits are: of the soft values of its code bits, and of rows
pub record IsOuterTask (columns : List (List Bool)) (l : List ℤ) (n code rows : ℕ) : Type 0 where
  pub word : IsOuterWord columns l
  pub free : (2 ≤ n) × (n ≤ 10078)
  pub long : length l ≡ kept_before columns (n + 2)
  pub code_long : code ≡ length l
  pub rows_long : rows ≡ outer_rows (n + 2)

-- the rows before `count` steps from `start` on
abbrev pub AreForeRows : ℕ → ℕ → List (List Bool) → List ℤ → List (List ℤ) → Type 0
AreForeRows start count columns l rows =
    (i : ℕ) → i < count → OuterFore (start + i) columns l (slice_index_or rows i [])

-- the row before each window of n steps
abbrev pub AreKeptRows : ℕ → List (List Bool) → List ℤ → List (List ℤ) → Type 0
AreKeptRows n columns l kept =
    (w : ℕ) → w < windows n → OuterFore (window * w) columns l (slice_index_or kept w [])

-- the soft value of information bit j of n
pub record IsInformationSoft (columns : List (List Bool)) (l : List ℤ) (n j : ℕ) (soft : ℤ) : Type 0 where
  pub tops : (b : ℕ) → b < 2 → IsSome (information_top columns l n j b)
  pub value : soft ≡ information_soft_value columns l n j

-- the soft value of code bit i
pub record IsCodeSoft (columns : List (List Bool)) (l : List ℤ) (n i : ℕ) (soft : ℤ) : Type 0 where
  pub tops : (b : ℕ) → b < 2 → IsSome (code_top columns l n i b)
  pub value : soft ≡ code_soft_value columns l n i

-- the soft values of the n information bits and of the code bits that are kept, from step t on
pub record SoftFrom (columns : List (List Bool)) (l : List ℤ) (n t : ℕ) (info code : List ℤ) : Type 0 where
  pub information : (j : ℕ) → t ≤ j → j < n → IsInformationSoft columns l n j (number_at info j)
  pub code_bits : (i : ℕ) → kept_before columns t ≤ i → i < length l → IsCodeSoft columns l n i (number_at code i)

-- the list with the values whose flag is set written from place `at` on
abbrev pub put_all : List Bool → List ℤ → List ℤ → ℕ → List ℤ
put_all [] values code at = code
put_all (flag ∷ flags) [] code at = code
put_all (flag ∷ flags) (v ∷ values) code at =
    put_all flags values (if flag then slice_set code at v else code) (at + (if flag then 1 else 0))
