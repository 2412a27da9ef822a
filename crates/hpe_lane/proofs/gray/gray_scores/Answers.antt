use Rattle.std.proofs.Common.{◌≡◌, ℕ, ℤ, List, drop, take, length, arith, ◌∙◌, ◌≤◌, ◌^◌}
use Rattle.std.proofs.Math.ListN.{length-set}
use Rattle.std.proofs.Math.Pow.{pow_mono}
use Rattle.std.proofs.lemmas.List.{length-take}
use Rattle.hpe_lane.proofs.DifferingBits.{two_halves, gray_low_within, gray_more}
use Rattle.hpe_lane.proofs.gray.gray_scores.Goals as goal

three_or_more : (m : ℕ) → 3 ≤ m → 8 ≤ 2 ^ m
three_or_more m h = pow_mono {i = 3} {j = m} h

pub slice_bounds-gray_eight-end-then-m-ge3 : goal.slice_bounds-gray_eight-end-then-m-ge3
slice_bounds-gray_eight-end-then-m-ge3 c = let t = three_or_more (length c.args.l.now) c.if-m-ge3.true in omega (arith, length-set {A = ℤ})

pub slice_bounds-gray_eight-end-then-m-ge3-2 : goal.slice_bounds-gray_eight-end-then-m-ge3-2
slice_bounds-gray_eight-end-then-m-ge3-2 c = let t = three_or_more (length c.args.l.now) c.if-m-ge3.true in simp length-take (omega (arith, length-set {A = ℤ}))

pub gray_eight-requires-clause-eight : goal.gray_eight-requires-clause-eight
gray_eight-requires-clause-eight c = let t = three_or_more (length c.args.l.now) c.if-m-ge3.true in simp length-take (omega (arith, length-set {A = ℤ}))

pub split_at_mut-low-requires : goal.split_at_mut-low-requires
split_at_mut-low-requires c = let t = two_halves c.loop-k.k (length c.args.l.now) c.loop-k-test.true in omega (arith, length-set {A = ℤ})

pub slice_bounds-mirror-end : goal.slice_bounds-mirror-end
slice_bounds-mirror-end c = let t = two_halves c.loop-k.k (length c.args.l.now) c.loop-k-test.true in omega (arith, length-set {A = ℤ})

pub slice_bounds-mirror-end-in-loop-k : goal.slice_bounds-mirror-end-in-loop-k
slice_bounds-mirror-end-in-loop-k c = let t = two_halves c.loop-k.k (length c.args.l.now) c.loop-k-test.true in simp length-take (omega (arith, length-set {A = ℤ}))

pub mirror-requires-clause-same : goal.mirror-requires-clause-same
mirror-requires-clause-same c = let t = two_halves c.loop-k.k (length c.args.l.now) c.loop-k-test.true in simp length-take (omega (arith, length-set {A = ℤ}))

pub mirror-requires-clause-low : goal.mirror-requires-clause-low
mirror-requires-clause-low c =
    gray_low_within c.args.l.now c.loop-k.k c.loop-k.half c.loop-k.out c.split_at_mut-low.result.0.now c.split_at_mut-low.result.1.now c.requires.few.1 c.loop-k-test.true c.split_at_mut-low.ensures.value (omega arith) c.requires.l c.loop-k.invariant.done

pub loop-k-preserved : goal.loop-k-preserved
loop-k-preserved c =
    let l : List ℤ = c.args.l.now in
    let k : ℕ = c.loop-k.k in
    let t = two_halves k (length l) c.loop-k-test.true in
    let low : List ℤ = c.split_at_mut-low.result.0.now in
    let high : List ℤ = c.mirror.new.high in
    let ll : length low ≡ c.loop-k.half = omega arith in
    let lh : length high ≡ length (take c.loop-k.half c.split_at_mut-low.result.1.now) = c.mirror.auto.high in
    let lt : length (take c.loop-k.half c.split_at_mut-low.result.1.now) ≡ c.loop-k.half = simp length-take (omega (arith, length-set {A = ℤ})) in
    let r = gray_more l k c.loop-k.half c.loop-k.out low c.split_at_mut-low.result.1.now high (drop c.loop-k.half c.split_at_mut-low.result.1.now)
    c.loop-k-test.true c.loop-k.invariant.half c.split_at_mut-low.ensures.value ll (lh ∙ lt) c.requires.l c.loop-k.invariant.done c.mirror.ensures in
    record { half = r.0; done = r.1 }
