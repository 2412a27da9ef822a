use Rattle.std.proofs.Common.{◌≡◌, ◌+◌, ◌<◌, ℕ, length, get_or}
use Rattle.hpe_find.specs.Leading.{Leads}
use Rattle.hpe_find.proofs.search.best_of.Given as goal

abbrev pub invariant-loop-k : goal.invariant-loop-k
invariant-loop-k l = (f : ℕ → ℕ) → ((k : ℕ) → k < length l.scores → get_or l.scores k 0 ≡ f (l.from + k)) →
    Leads f l.from l.fn.best.offset l.fn.best.score → Leads f (l.from + l.k) l.best.offset l.best.score
