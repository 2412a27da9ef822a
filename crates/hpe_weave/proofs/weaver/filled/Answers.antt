use Rattle.std.proofs.Common.{◌≡◌, ◌∙◌, ap, ◌++◌, ◌∷◌, [], arith, length, List, ℕ, drop, ◌+◌, ◌-◌, ◌≤◌, replicate}
use Rattle.std.proofs.lemmas.List.{replicate_more, length-replicate, length_push}
use Rattle.std.proofs.lemmas.Grind.{common_steps}
use Rattle.circular_buffer.specs.Buffer.{Buffer}
use Rattle.hpe_base.specs.Bits.{zeros}
use Rattle.hpe_weave.proofs.weaver.filled.Goals as goal

pub loop-init : goal.loop-init
unfolding zeros
loop-init c = grind (arith, common_steps)

fills : (n c : ℕ) (xs : List ℕ) → xs ≡ replicate n 0 → n + 1 ≤ c → drop (length (xs ++ 0 ∷ []) - c) (xs ++ 0 ∷ []) ≡ replicate (n + 1) 0
fills n c xs e h =
    let l : length (xs ++ 0 ∷ []) ≡ n + 1 = length_push xs 0 ∙ ap (λ (ys : List ℕ). length ys + 1) e ∙ ap (λ (k : ℕ). k + 1) (length-replicate n 0) in
    let z : length (xs ++ 0 ∷ []) - c ≡ 0 = omega arith in
    ap (λ (k : ℕ). drop k (xs ++ 0 ∷ [])) z ∙ ap (λ (ys : List ℕ). ys ++ 0 ∷ []) e ∙ replicate_more n 0

pub loop-preserved : goal.loop-preserved
unfolding zeros
loop-preserved c =
    let i = c.loop.invariant in (
      ap (λ (b : Buffer ℕ). b.items) c.push_back.ensures.items ∙ fills c.loop.counter c.loop.ring.capacity c.loop.ring.items i.0 (omega arith),
      ap (λ (b : Buffer ℕ). b.capacity) c.push_back.ensures.items ∙ i.1,
    )
