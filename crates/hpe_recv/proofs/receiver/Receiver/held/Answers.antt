use Rattle.std.proofs.Common.{◌≡◌, ◌≤◌, ◌+◌, ap, arith, length, ℕ}
use Rattle.hpe_recv.proofs.receiver.Receiver.held.Goals as goal

-- counts that are kept, and what is kept of the stream
sum_within : (a b x y z : ℕ) → a ≤ x → b ≤ y + z → a + b ≤ x + y + z
sum_within a b x y z h k = omega arith

pub overflow_add-result : goal.overflow_add-result
overflow_add-result c = omega (arith, c.counts.type_inv.1, c.held.ensures.few)

-- and the four parts of the sum
sum_is : (k b w x y r h : ℕ) → r ≡ k + h → h ≡ b + (w + x + y) → r ≡ k + (b + (w + (x + y)))
sum_is k b w x y r h e f = omega arith

pub returns-clause-value : goal.returns-clause-value
returns-clause-value c =
    let value = rw c.self.invariant.stream at c.held.ensures.value in
    rw (← c.self.view_is) (sum_is _ _ _ _ _ _ c.held.result (ap (λ n. n + c.held.result) (ap length c.counts.ensures)) value)

pub returns-clause-most : goal.returns-clause-most
returns-clause-most c =
    let kept : length c.counts.result.now ≡ length c.self.inside.reception.finder.counts = ap length c.counts.ensures in
    rw (← c.self.view_is) (sum_within (length c.counts.result.now) c.held.result _ _ _ (omega (arith, kept, c.self.invariant.within)) (rw c.self.invariant.stream at c.held.ensures.most))
