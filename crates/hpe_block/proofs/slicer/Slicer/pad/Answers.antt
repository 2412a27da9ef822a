use Rattle.std.proofs.Common.{◌≡◌, ◌<◌, ◌+◌, ◌-◌, ◌%◌, ◌++◌, ◌∙◌, ap, arith, ℕ, List, length, replicate, take, drop}
use Rattle.std.proofs.lemmas.Bool.{lt-ltb, ltb-true}
use Rattle.std.proofs.lemmas.List.{length-take-le, length-drop, length-replicate}
use Rattle.hpe_base.specs.Bits.{zeros}
use Rattle.hpe_base.specs.Units.{unit_of}
use Rattle.hpe_base.specs.Parameters.{block_bits}
use Rattle.hpe_block.specs.Slicing.{Slicing}
use Rattle.hpe_block.proofs.Units.{used_rest, padded, first_filled}
use Rattle.hpe_block.proofs.slicer.Slicer.pad.Goals as goal

pub returns-then-begun-clause-stands : goal.returns-then-begun-clause-stands
returns-then-begun-clause-stands c = λ pushed was yes.
    let i = c.self.invariant in
    let n : ℕ = block_bits c.self.inside.profile.rate in
    let items : List ℕ = c.self.inside.bits.items in
    let used : ℕ = c.self.inside.used in
    let same : n ≡ block_bits c.args.self.now.parameters.rate = ap (λ (s : Slicing). block_bits s.parameters.rate) c.self.view_is in
    let size : c.len-size.result ≡ n = omega arith in
    let len : c.self.inside.bits.len ≡ n = omega arith in
    let begun : 0 < used % n = rw (← size) c.if-begun.true in
    let held : c.deref_mut.result.now ≡ items = c.deref_mut.ensures.value in
    let rest : length (take (length c.deref_mut.result.now - used) (drop used c.deref_mut.result.now)) ≡ n - used =
    omega (arith, length-take-le (length c.deref_mut.result.now - used) (drop used c.deref_mut.result.now), length-drop used c.deref_mut.result.now) in
    let fill : c.fill.new.self ≡ replicate (n - used) 0 = c.fill.ensures.after (λ y e. e) ∙ ap (λ k. replicate k 0) rest in
    let all : length (take used items) + length (replicate (n - used) 0) ≡ n = omega (arith, length-take-le used items, length-replicate {A = ℕ} (n - used) 0) in
    rw (fill, size, len, held) (first_filled n (take used items) (replicate (n - used) 0) _ _ all
    ∙ (padded n items pushed used i.low i.size i.used (rw (← c.self.view_is) at was) begun ∙ ap (λ k. unit_of n (pushed ++ zeros (k - length pushed % k))) same))

pub returns-else-begun-clause-begun : goal.returns-else-begun-clause-begun
returns-else-begun-clause-begun c = λ pushed was.
    let i = c.self.invariant in
    let n : ℕ = block_bits c.self.inside.profile.rate in
    let same : n ≡ block_bits c.args.self.now.parameters.rate = ap (λ (s : Slicing). block_bits s.parameters.rate) c.self.view_is in
    let size : c.len-size.result ≡ n = omega arith in
    let rest : c.self.inside.used % n ≡ length pushed % n =
    used_rest n c.self.inside.bits.items pushed c.self.inside.used i.low i.size i.used (rw (← c.self.view_is) at was) in
    let both : c.self.inside.used % c.len-size.result ≡ length pushed % block_bits c.args.self.now.parameters.rate =
    ap (λ k. c.self.inside.used % k) size ∙ (rest ∙ ap (λ k. length pushed % k) same) in (
      (λ yes. omega (arith, ltb-true 0 (c.self.inside.used % c.len-size.result) yes, both)),
      (λ some. lt-ltb 0 (c.self.inside.used % c.len-size.result) (omega (arith, both))),
    )
