-- Sums that grow side by side, a term of each at a time.
use Rattle.std.proofs.Common.{List, length, get_or, sum, ◌≡◌, ◌+◌, ◌*◌, ◌<◌, ◌≤◌, ℕ, arith}
use Rattle.hpe_base.specs.Lists.{tabulate}
use Rattle.hpe_base.proofs.Tabulated.{sum-tabulate-none, sum-tabulate-more, sum-tabulate-le}

-- each number of a list has grown by the first n of its own terms
pub record Added (f : ℕ → ℕ → ℕ) (old now : List ℕ) (n : ℕ) : Type 0 where
  pub sums : (k : ℕ) → k < length now → get_or now k 0 ≡ get_or old k 0 + sum (tabulate n (f k))

pub Added-none : (f : ℕ → ℕ → ℕ) (old : List ℕ) → Added f old old 0
Added-none f old = record { sums = λ k b. omega (arith, sum-tabulate-none (f k)) }

pub Added-more : (f : ℕ → ℕ → ℕ) (old mid new : List ℕ) (n : ℕ) → Added f old mid n → length new ≡ length mid →
    ((k : ℕ) → k < length mid → get_or new k 0 ≡ get_or mid k 0 + f k n) → Added f old new (n + 1)
Added-more f old mid new n a long e = record {
  sums = λ k b.
      let within : k < length mid = omega arith in
      omega (arith, sum-tabulate-more n (f k), e k within, a.sums k within);
}

-- numbers of at most b have grown by terms of at most c
pub Added-small : (f : ℕ → ℕ → ℕ) (old now : List ℕ) (n c b : ℕ) → Added f old now n → length now ≡ length old →
    ((k : ℕ) → k < length old → get_or old k 0 ≤ b) → ((k i : ℕ) → f k i ≤ c) → (k : ℕ) → k < length now → get_or now k 0 ≤ b + n * c
Added-small f old now n c b a long small each k h =
    let within : k < length old = omega arith in
    omega (arith, a.sums k h, small k within, sum-tabulate-le n c (f k) (λ i _. each k i))
