-- What vectors compute, place by place; tools/vectors writes this file.
use Rattle.std.proofs.Common.{◌≡◌, ◌%◌, ◌*◌, lit≤, lit<, ℕ, zero, suc, ◌+◌, ◌-◌, ◌<◌, ◌≤◌, refl, arith, ℤ, pos, ◌+ℤ◌, ◌-ℤ◌, List, [], ◌∷◌, length, map, get_or, replicate, take, w32, FitsSigned}
use Rattle.std.specs.Int.{int_max}
use Rattle.hpe_base.specs.Sizes.{number_at, Within, AllWithin}
use Rattle.hpe_lane.proofs.Sizes.{wider}
use Rattle.hpe_lane.specs.OuterSums.{best_sum, turned_by}
use Rattle.hpe_lane.proofs.OneLane.{bits32, plus32, wide32, numbers32, lanes8, greater32, turned8, AreEight, lane_added, lane_count, fit_max, lane_greatest, lane_best, lane_joined, lane_gap, at_two_places, at_four_places, two_numbers, four_numbers, forward_sums, halves32, quarter32, ends_of, joined32, gaps32}
use lib.Lanes.{zip2}

-- what holds of each of eight places
pub at_eight : (P : ℕ → Type 0) → P 0 → P 1 → P 2 → P 3 → P 4 → P 5 → P 6 → P 7 → (j : ℕ) → j < 8 → P j
at_eight P p0 p1 p2 p3 p4 p5 p6 p7 zero h = p0
at_eight P p0 p1 p2 p3 p4 p5 p6 p7 (suc zero) h = p1
at_eight P p0 p1 p2 p3 p4 p5 p6 p7 (suc (suc zero)) h = p2
at_eight P p0 p1 p2 p3 p4 p5 p6 p7 (suc (suc (suc zero))) h = p3
at_eight P p0 p1 p2 p3 p4 p5 p6 p7 (suc (suc (suc (suc zero)))) h = p4
at_eight P p0 p1 p2 p3 p4 p5 p6 p7 (suc (suc (suc (suc (suc zero))))) h = p5
at_eight P p0 p1 p2 p3 p4 p5 p6 p7 (suc (suc (suc (suc (suc (suc zero)))))) h = p6
at_eight P p0 p1 p2 p3 p4 p5 p6 p7 (suc (suc (suc (suc (suc (suc (suc zero))))))) h = p7
at_eight P p0 p1 p2 p3 p4 p5 p6 p7 (suc (suc (suc (suc (suc (suc (suc (suc j)))))))) h = absurd (omega arith)

-- a list of eight numbers, written out
pub eight_numbers : (P : List ℤ → Type 0) → ((a b c d e f g h : ℤ) → P (a ∷ b ∷ c ∷ d ∷ e ∷ f ∷ g ∷ h ∷ [])) → (xs : List ℤ) → length xs ≡ 8 → P xs
eight_numbers P k [] e8 = absurd (omega arith)
eight_numbers P k (a ∷ []) e8 = absurd (omega arith)
eight_numbers P k (a ∷ b ∷ []) e8 = absurd (omega arith)
eight_numbers P k (a ∷ b ∷ c ∷ []) e8 = absurd (omega arith)
eight_numbers P k (a ∷ b ∷ c ∷ d ∷ []) e8 = absurd (omega arith)
eight_numbers P k (a ∷ b ∷ c ∷ d ∷ e ∷ []) e8 = absurd (omega arith)
eight_numbers P k (a ∷ b ∷ c ∷ d ∷ e ∷ f ∷ []) e8 = absurd (omega arith)
eight_numbers P k (a ∷ b ∷ c ∷ d ∷ e ∷ f ∷ g ∷ []) e8 = absurd (omega arith)
eight_numbers P k (a ∷ b ∷ c ∷ d ∷ e ∷ f ∷ g ∷ h ∷ []) e8 = k a b c d e f g h
eight_numbers P k (a ∷ b ∷ c ∷ d ∷ e ∷ f ∷ g ∷ h ∷ i ∷ xs) e8 = absurd (omega arith)

-- a list of eight counts, written out
eight_counts : (P : List ℕ → Type 0) → ((a b c d e f g h : ℕ) → P (a ∷ b ∷ c ∷ d ∷ e ∷ f ∷ g ∷ h ∷ [])) → (xs : List ℕ) → length xs ≡ 8 → P xs
eight_counts P k [] e8 = absurd (omega arith)
eight_counts P k (a ∷ []) e8 = absurd (omega arith)
eight_counts P k (a ∷ b ∷ []) e8 = absurd (omega arith)
eight_counts P k (a ∷ b ∷ c ∷ []) e8 = absurd (omega arith)
eight_counts P k (a ∷ b ∷ c ∷ d ∷ []) e8 = absurd (omega arith)
eight_counts P k (a ∷ b ∷ c ∷ d ∷ e ∷ []) e8 = absurd (omega arith)
eight_counts P k (a ∷ b ∷ c ∷ d ∷ e ∷ f ∷ []) e8 = absurd (omega arith)
eight_counts P k (a ∷ b ∷ c ∷ d ∷ e ∷ f ∷ g ∷ []) e8 = absurd (omega arith)
eight_counts P k (a ∷ b ∷ c ∷ d ∷ e ∷ f ∷ g ∷ h ∷ []) e8 = k a b c d e f g h
eight_counts P k (a ∷ b ∷ c ∷ d ∷ e ∷ f ∷ g ∷ h ∷ i ∷ xs) e8 = absurd (omega arith)

-- a number added to the mirror image
pub mirror_lanes : (x : ℤ) → Within 1000000000 x → (s : List ℤ) → length s ≡ 8 → AllWithin 1000000000 s → AreEight (numbers32 (zip2 plus32 (turned8 (lanes8 s)) (replicate 8 (bits32 x)))) (λ j. x +ℤ number_at s (7 - j))
mirror_lanes x hx = eight_numbers (λ (s : List ℤ). AllWithin 1000000000 s → AreEight (numbers32 (zip2 plus32 (turned8 (lanes8 s)) (replicate 8 (bits32 x)))) (λ j. x +ℤ number_at s (7 - j))) (λ s0 s1 s2 s3 s4 s5 s6 s7 ws. record { long = refl; each = at_eight _ (lane_added s7 x (ws 7) hx) (lane_added s6 x (ws 6) hx) (lane_added s5 x (ws 5) hx) (lane_added s4 x (ws 4) hx) (lane_added s3 x (ws 3) hx) (lane_added s2 x (ws 2) hx) (lane_added s1 x (ws 1) hx) (lane_added s0 x (ws 0) hx) })

-- counts added
pub count_lanes : (s : List ℤ) → length s ≡ 8 → AllWithin 1000000000 s → (n : List ℕ) → length n ≡ 8 → ((i : ℕ) → get_or n i 0 ≤ 16383) → AreEight (numbers32 (zip2 plus32 (map wide32 (take 8 n)) (lanes8 s))) (λ j. pos (get_or n j 0) +ℤ number_at s j)
count_lanes = eight_numbers (λ (s : List ℤ). AllWithin 1000000000 s → (n : List ℕ) → length n ≡ 8 → ((i : ℕ) → get_or n i 0 ≤ 16383) → AreEight (numbers32 (zip2 plus32 (map wide32 (take 8 n)) (lanes8 s))) (λ j. pos (get_or n j 0) +ℤ number_at s j)) (λ s0 s1 s2 s3 s4 s5 s6 s7 ws. eight_counts (λ (n : List ℕ). ((i : ℕ) → get_or n i 0 ≤ 16383) → AreEight (numbers32 (zip2 plus32 (map wide32 (take 8 n)) (lanes8 (s0 ∷ s1 ∷ s2 ∷ s3 ∷ s4 ∷ s5 ∷ s6 ∷ s7 ∷ [])))) (λ j. pos (get_or n j 0) +ℤ number_at (s0 ∷ s1 ∷ s2 ∷ s3 ∷ s4 ∷ s5 ∷ s6 ∷ s7 ∷ []) j)) (λ n0 n1 n2 n3 n4 n5 n6 n7 wn. record { long = refl; each = at_eight _ (lane_count n0 s0 (wn 0) (ws 0)) (lane_count n1 s1 (wn 1) (ws 1)) (lane_count n2 s2 (wn 2) (ws 2)) (lane_count n3 s3 (wn 3) (ws 3)) (lane_count n4 s4 (wn 4) (ws 4)) (lane_count n5 s5 (wn 5) (ws 5)) (lane_count n6 s6 (wn 6) (ws 6)) (lane_count n7 s7 (wn 7) (ws 7)) }))

-- counts added to the mirror image
pub turned_count_lanes : (s : List ℤ) → length s ≡ 8 → AllWithin 1000000000 s → (n : List ℕ) → length n ≡ 8 → ((i : ℕ) → get_or n i 0 ≤ 16383) → AreEight (numbers32 (zip2 plus32 (map wide32 (take 8 n)) (turned8 (lanes8 s)))) (λ j. pos (get_or n j 0) +ℤ number_at s (7 - j))
turned_count_lanes = eight_numbers (λ (s : List ℤ). AllWithin 1000000000 s → (n : List ℕ) → length n ≡ 8 → ((i : ℕ) → get_or n i 0 ≤ 16383) → AreEight (numbers32 (zip2 plus32 (map wide32 (take 8 n)) (turned8 (lanes8 s)))) (λ j. pos (get_or n j 0) +ℤ number_at s (7 - j))) (λ s0 s1 s2 s3 s4 s5 s6 s7 ws. eight_counts (λ (n : List ℕ). ((i : ℕ) → get_or n i 0 ≤ 16383) → AreEight (numbers32 (zip2 plus32 (map wide32 (take 8 n)) (turned8 (lanes8 (s0 ∷ s1 ∷ s2 ∷ s3 ∷ s4 ∷ s5 ∷ s6 ∷ s7 ∷ []))))) (λ j. pos (get_or n j 0) +ℤ number_at (s0 ∷ s1 ∷ s2 ∷ s3 ∷ s4 ∷ s5 ∷ s6 ∷ s7 ∷ []) (7 - j))) (λ n0 n1 n2 n3 n4 n5 n6 n7 wn. record { long = refl; each = at_eight _ (lane_count n0 s7 (wn 0) (ws 7)) (lane_count n1 s6 (wn 1) (ws 6)) (lane_count n2 s5 (wn 2) (ws 5)) (lane_count n3 s4 (wn 3) (ws 4)) (lane_count n4 s3 (wn 4) (ws 3)) (lane_count n5 s2 (wn 5) (ws 2)) (lane_count n6 s1 (wn 6) (ws 1)) (lane_count n7 s0 (wn 7) (ws 0)) }))

-- the greater of two lists, place by place
pub greater_lanes : (s : List ℤ) → length s ≡ 8 → ((i : ℕ) → i < 8 → FitsSigned w32 (number_at s i)) → (r : List ℤ) → length r ≡ 8 → ((i : ℕ) → i < 8 → FitsSigned w32 (number_at r i)) → AreEight (numbers32 (greater32 (lanes8 s) (lanes8 r))) (λ j. int_max (number_at s j) (number_at r j))
greater_lanes = eight_numbers (λ (s : List ℤ). ((i : ℕ) → i < 8 → FitsSigned w32 (number_at s i)) → (r : List ℤ) → length r ≡ 8 → ((i : ℕ) → i < 8 → FitsSigned w32 (number_at r i)) → AreEight (numbers32 (greater32 (lanes8 s) (lanes8 r))) (λ j. int_max (number_at s j) (number_at r j))) (λ s0 s1 s2 s3 s4 s5 s6 s7 ws. eight_numbers (λ (r : List ℤ). ((i : ℕ) → i < 8 → FitsSigned w32 (number_at r i)) → AreEight (numbers32 (greater32 (lanes8 (s0 ∷ s1 ∷ s2 ∷ s3 ∷ s4 ∷ s5 ∷ s6 ∷ s7 ∷ [])) (lanes8 r))) (λ j. int_max (number_at (s0 ∷ s1 ∷ s2 ∷ s3 ∷ s4 ∷ s5 ∷ s6 ∷ s7 ∷ []) j) (number_at r j))) (λ r0 r1 r2 r3 r4 r5 r6 r7 wr. record { long = refl; each = at_eight _ (fit_max s0 r0 (ws 0 (lit< tt)) (wr 0 (lit< tt))) (fit_max s1 r1 (ws 1 (lit< tt)) (wr 1 (lit< tt))) (fit_max s2 r2 (ws 2 (lit< tt)) (wr 2 (lit< tt))) (fit_max s3 r3 (ws 3 (lit< tt)) (wr 3 (lit< tt))) (fit_max s4 r4 (ws 4 (lit< tt)) (wr 4 (lit< tt))) (fit_max s5 r5 (ws 5 (lit< tt)) (wr 5 (lit< tt))) (fit_max s6 r6 (ws 6 (lit< tt)) (wr 6 (lit< tt))) (fit_max s7 r7 (ws 7 (lit< tt)) (wr 7 (lit< tt))) }))

-- the greater of a list and of the mirror image of another
pub raised_lanes : (s : List ℤ) → length s ≡ 8 → ((i : ℕ) → i < 8 → FitsSigned w32 (number_at s i)) → (r : List ℤ) → length r ≡ 8 → ((i : ℕ) → i < 8 → FitsSigned w32 (number_at r i)) → AreEight (numbers32 (greater32 (lanes8 s) (turned8 (lanes8 r)))) (λ j. int_max (number_at s j) (number_at r (7 - j)))
raised_lanes = eight_numbers (λ (s : List ℤ). ((i : ℕ) → i < 8 → FitsSigned w32 (number_at s i)) → (r : List ℤ) → length r ≡ 8 → ((i : ℕ) → i < 8 → FitsSigned w32 (number_at r i)) → AreEight (numbers32 (greater32 (lanes8 s) (turned8 (lanes8 r)))) (λ j. int_max (number_at s j) (number_at r (7 - j)))) (λ s0 s1 s2 s3 s4 s5 s6 s7 ws. eight_numbers (λ (r : List ℤ). ((i : ℕ) → i < 8 → FitsSigned w32 (number_at r i)) → AreEight (numbers32 (greater32 (lanes8 (s0 ∷ s1 ∷ s2 ∷ s3 ∷ s4 ∷ s5 ∷ s6 ∷ s7 ∷ [])) (turned8 (lanes8 r)))) (λ j. int_max (number_at (s0 ∷ s1 ∷ s2 ∷ s3 ∷ s4 ∷ s5 ∷ s6 ∷ s7 ∷ []) j) (number_at r (7 - j)))) (λ r0 r1 r2 r3 r4 r5 r6 r7 wr. record { long = refl; each = at_eight _ (fit_max s0 r7 (ws 0 (lit< tt)) (wr 7 (lit< tt))) (fit_max s1 r6 (ws 1 (lit< tt)) (wr 6 (lit< tt))) (fit_max s2 r5 (ws 2 (lit< tt)) (wr 5 (lit< tt))) (fit_max s3 r4 (ws 3 (lit< tt)) (wr 4 (lit< tt))) (fit_max s4 r3 (ws 4 (lit< tt)) (wr 3 (lit< tt))) (fit_max s5 r2 (ws 5 (lit< tt)) (wr 2 (lit< tt))) (fit_max s6 r1 (ws 6 (lit< tt)) (wr 1 (lit< tt))) (fit_max s7 r0 (ws 7 (lit< tt)) (wr 0 (lit< tt))) }))

-- the greater of the two sums that lead to a state
pub forward_lanes : (r : List ℤ) → length r ≡ 4 → ((p : ℕ) → p < 4 → Within 600000000 (number_at r p)) → (e : List ℤ) → length e ≡ 8 → ((p : ℕ) → p < 8 → Within 49149 (number_at e p)) → (q : ℕ) → q < 4 → number_at (numbers32 (halves32 (forward_sums (map bits32 r) (map bits32 e)))) q ≡ int_max (number_at r (2 * (q % 2)) +ℤ number_at e q) (number_at r (2 * (q % 2) + 1) +ℤ number_at e (4 + q))
forward_lanes = four_numbers (λ (r : List ℤ). ((p : ℕ) → p < 4 → Within 600000000 (number_at r p)) → (e : List ℤ) → length e ≡ 8 → ((p : ℕ) → p < 8 → Within 49149 (number_at e p)) → (q : ℕ) → q < 4 → number_at (numbers32 (halves32 (forward_sums (map bits32 r) (map bits32 e)))) q ≡ int_max (number_at r (2 * (q % 2)) +ℤ number_at e q) (number_at r (2 * (q % 2) + 1) +ℤ number_at e (4 + q))) (λ r0 r1 r2 r3 wr. eight_numbers (λ (e : List ℤ). ((p : ℕ) → p < 8 → Within 49149 (number_at e p)) → (q : ℕ) → q < 4 → number_at (numbers32 (halves32 (forward_sums (map bits32 (r0 ∷ r1 ∷ r2 ∷ r3 ∷ [])) (map bits32 e)))) q ≡ int_max (number_at (r0 ∷ r1 ∷ r2 ∷ r3 ∷ []) (2 * (q % 2)) +ℤ number_at e q) (number_at (r0 ∷ r1 ∷ r2 ∷ r3 ∷ []) (2 * (q % 2) + 1) +ℤ number_at e (4 + q))) (λ e0 e1 e2 e3 e4 e5 e6 e7 we. at_four_places _ (lane_best r0 e0 r1 e4 (big (wr 0 (lit< tt))) (small (we 0 (lit< tt))) (big (wr 1 (lit< tt))) (small (we 4 (lit< tt)))) (lane_best r2 e1 r3 e5 (big (wr 2 (lit< tt))) (small (we 1 (lit< tt))) (big (wr 3 (lit< tt))) (small (we 5 (lit< tt)))) (lane_best r0 e2 r1 e6 (big (wr 0 (lit< tt))) (small (we 2 (lit< tt))) (big (wr 1 (lit< tt))) (small (we 6 (lit< tt)))) (lane_best r2 e3 r3 e7 (big (wr 2 (lit< tt))) (small (we 3 (lit< tt))) (big (wr 3 (lit< tt))) (small (we 7 (lit< tt))))))
  where
    big : {x : ℤ} → Within 600000000 x → Within 1000000000 x
    big {x} h = wider 600000000 1000000000 x (lit≤ tt) h

    small : {x : ℤ} → Within 49149 x → Within 1000000000 x
    small {x} h = wider 49149 1000000000 x (lit≤ tt) h

-- the greatest of the even lanes and of the odd ones
pub ends_lanes : (b : List ℤ) → length b ≡ 8 → ((i : ℕ) → i < 8 → FitsSigned w32 (number_at b i)) → (j : ℕ) → j < 2 → number_at (numbers32 (quarter32 (halves32 (map bits32 b)))) j ≡ ends_of b j
ends_lanes = eight_numbers (λ (b : List ℤ). ((i : ℕ) → i < 8 → FitsSigned w32 (number_at b i)) → (j : ℕ) → j < 2 → number_at (numbers32 (quarter32 (halves32 (map bits32 b)))) j ≡ ends_of b j) (λ b0 b1 b2 b3 b4 b5 b6 b7 wb. at_two_places _ (lane_greatest b0 b4 b2 b6 (wb 0 (lit< tt)) (wb 4 (lit< tt)) (wb 2 (lit< tt)) (wb 6 (lit< tt))) (lane_greatest b1 b5 b3 b7 (wb 1 (lit< tt)) (wb 5 (lit< tt)) (wb 3 (lit< tt)) (wb 7 (lit< tt))))

-- what joins both states, place by place
pub joined_lanes : (a : List ℤ) → length a ≡ 2 → ((p : ℕ) → p < 2 → Within 1700000000 (number_at a p)) → (b : List ℤ) → length b ≡ 2 → ((p : ℕ) → p < 2 → Within 1700000000 (number_at b p)) → (f : List ℤ) → length f ≡ 8 → AllWithin 147447 f → (g : List ℤ) → length g ≡ 8 → AllWithin 147447 g → AreEight (numbers32 (joined32 a f b g)) (λ j. int_max (number_at a (j % 2) +ℤ number_at f j) (number_at b (j % 2) +ℤ number_at g (7 - j)))
joined_lanes = two_numbers (λ (a : List ℤ). ((p : ℕ) → p < 2 → Within 1700000000 (number_at a p)) → (b : List ℤ) → length b ≡ 2 → ((p : ℕ) → p < 2 → Within 1700000000 (number_at b p)) → (f : List ℤ) → length f ≡ 8 → AllWithin 147447 f → (g : List ℤ) → length g ≡ 8 → AllWithin 147447 g → AreEight (numbers32 (joined32 a f b g)) (λ j. int_max (number_at a (j % 2) +ℤ number_at f j) (number_at b (j % 2) +ℤ number_at g (7 - j)))) (λ a0 a1 wa. two_numbers (λ (b : List ℤ). ((p : ℕ) → p < 2 → Within 1700000000 (number_at b p)) → (f : List ℤ) → length f ≡ 8 → AllWithin 147447 f → (g : List ℤ) → length g ≡ 8 → AllWithin 147447 g → AreEight (numbers32 (joined32 (a0 ∷ a1 ∷ []) f b g)) (λ j. int_max (number_at (a0 ∷ a1 ∷ []) (j % 2) +ℤ number_at f j) (number_at b (j % 2) +ℤ number_at g (7 - j)))) (λ b0 b1 wb. eight_numbers (λ (f : List ℤ). AllWithin 147447 f → (g : List ℤ) → length g ≡ 8 → AllWithin 147447 g → AreEight (numbers32 (joined32 (a0 ∷ a1 ∷ []) f (b0 ∷ b1 ∷ []) g)) (λ j. int_max (number_at (a0 ∷ a1 ∷ []) (j % 2) +ℤ number_at f j) (number_at (b0 ∷ b1 ∷ []) (j % 2) +ℤ number_at g (7 - j)))) (λ f0 f1 f2 f3 f4 f5 f6 f7 wf. eight_numbers (λ (g : List ℤ). AllWithin 147447 g → AreEight (numbers32 (joined32 (a0 ∷ a1 ∷ []) (f0 ∷ f1 ∷ f2 ∷ f3 ∷ f4 ∷ f5 ∷ f6 ∷ f7 ∷ []) (b0 ∷ b1 ∷ []) g)) (λ j. int_max (number_at (a0 ∷ a1 ∷ []) (j % 2) +ℤ number_at (f0 ∷ f1 ∷ f2 ∷ f3 ∷ f4 ∷ f5 ∷ f6 ∷ f7 ∷ []) j) (number_at (b0 ∷ b1 ∷ []) (j % 2) +ℤ number_at g (7 - j)))) (λ g0 g1 g2 g3 g4 g5 g6 g7 wg. record { long = refl; each = at_eight _ (lane_joined a0 f0 b0 g7 (wa 0 (lit< tt)) (wf 0) (wb 0 (lit< tt)) (wg 7)) (lane_joined a1 f1 b1 g6 (wa 1 (lit< tt)) (wf 1) (wb 1 (lit< tt)) (wg 6)) (lane_joined a0 f2 b0 g5 (wa 0 (lit< tt)) (wf 2) (wb 0 (lit< tt)) (wg 5)) (lane_joined a1 f3 b1 g4 (wa 1 (lit< tt)) (wf 3) (wb 1 (lit< tt)) (wg 4)) (lane_joined a0 f4 b0 g3 (wa 0 (lit< tt)) (wf 4) (wb 0 (lit< tt)) (wg 3)) (lane_joined a1 f5 b1 g2 (wa 1 (lit< tt)) (wf 5) (wb 1 (lit< tt)) (wg 2)) (lane_joined a0 f6 b0 g1 (wa 0 (lit< tt)) (wf 6) (wb 0 (lit< tt)) (wg 1)) (lane_joined a1 f7 b1 g0 (wa 1 (lit< tt)) (wf 7) (wb 1 (lit< tt)) (wg 0)) }))))

-- the greatest sum of one list less that of the other, as the soft bits exchange them
pub gaps_lanes : (f : List ℤ) → length f ≡ 4 → ((p : ℕ) → p < 4 → Within 600000000 (number_at f p)) → (z : List ℤ) → length z ≡ 4 → ((p : ℕ) → p < 4 → Within 600049149 (number_at z p)) → (o : List ℤ) → length o ≡ 4 → ((p : ℕ) → p < 4 → Within 600049149 (number_at o p)) → (k : ℕ) → k < 4 → number_at (numbers32 (gaps32 (map bits32 f) (map bits32 z) (map bits32 o))) k ≡ best_sum (number_at f) (number_at (turned_by k o z)) -ℤ best_sum (number_at f) (number_at (turned_by k z o))
gaps_lanes = four_numbers (λ (f : List ℤ). ((p : ℕ) → p < 4 → Within 600000000 (number_at f p)) → (z : List ℤ) → length z ≡ 4 → ((p : ℕ) → p < 4 → Within 600049149 (number_at z p)) → (o : List ℤ) → length o ≡ 4 → ((p : ℕ) → p < 4 → Within 600049149 (number_at o p)) → (k : ℕ) → k < 4 → number_at (numbers32 (gaps32 (map bits32 f) (map bits32 z) (map bits32 o))) k ≡ best_sum (number_at f) (number_at (turned_by k o z)) -ℤ best_sum (number_at f) (number_at (turned_by k z o))) (λ f0 f1 f2 f3 wf. four_numbers (λ (z : List ℤ). ((p : ℕ) → p < 4 → Within 600049149 (number_at z p)) → (o : List ℤ) → length o ≡ 4 → ((p : ℕ) → p < 4 → Within 600049149 (number_at o p)) → (k : ℕ) → k < 4 → number_at (numbers32 (gaps32 (map bits32 (f0 ∷ f1 ∷ f2 ∷ f3 ∷ [])) (map bits32 z) (map bits32 o))) k ≡ best_sum (number_at (f0 ∷ f1 ∷ f2 ∷ f3 ∷ [])) (number_at (turned_by k o z)) -ℤ best_sum (number_at (f0 ∷ f1 ∷ f2 ∷ f3 ∷ [])) (number_at (turned_by k z o))) (λ z0 z1 z2 z3 wz. four_numbers (λ (o : List ℤ). ((p : ℕ) → p < 4 → Within 600049149 (number_at o p)) → (k : ℕ) → k < 4 → number_at (numbers32 (gaps32 (map bits32 (f0 ∷ f1 ∷ f2 ∷ f3 ∷ [])) (map bits32 (z0 ∷ z1 ∷ z2 ∷ z3 ∷ [])) (map bits32 o))) k ≡ best_sum (number_at (f0 ∷ f1 ∷ f2 ∷ f3 ∷ [])) (number_at (turned_by k o (z0 ∷ z1 ∷ z2 ∷ z3 ∷ []))) -ℤ best_sum (number_at (f0 ∷ f1 ∷ f2 ∷ f3 ∷ [])) (number_at (turned_by k (z0 ∷ z1 ∷ z2 ∷ z3 ∷ []) o))) (λ o0 o1 o2 o3 wo. at_four_places _ (lane_gap (number_at (f0 ∷ f1 ∷ f2 ∷ f3 ∷ [])) (number_at (o0 ∷ o1 ∷ o2 ∷ o3 ∷ [])) (number_at (z0 ∷ z1 ∷ z2 ∷ z3 ∷ [])) wf (at_four_places (λ (p : ℕ). Within 600049149 (number_at (o0 ∷ o1 ∷ o2 ∷ o3 ∷ []) p)) (wo 0 (lit< tt)) (wo 1 (lit< tt)) (wo 2 (lit< tt)) (wo 3 (lit< tt))) (at_four_places (λ (p : ℕ). Within 600049149 (number_at (z0 ∷ z1 ∷ z2 ∷ z3 ∷ []) p)) (wz 0 (lit< tt)) (wz 1 (lit< tt)) (wz 2 (lit< tt)) (wz 3 (lit< tt)))) (lane_gap (number_at (f0 ∷ f1 ∷ f2 ∷ f3 ∷ [])) (number_at (o0 ∷ z1 ∷ o2 ∷ z3 ∷ [])) (number_at (z0 ∷ o1 ∷ z2 ∷ o3 ∷ [])) wf (at_four_places (λ (p : ℕ). Within 600049149 (number_at (o0 ∷ z1 ∷ o2 ∷ z3 ∷ []) p)) (wo 0 (lit< tt)) (wz 1 (lit< tt)) (wo 2 (lit< tt)) (wz 3 (lit< tt))) (at_four_places (λ (p : ℕ). Within 600049149 (number_at (z0 ∷ o1 ∷ z2 ∷ o3 ∷ []) p)) (wz 0 (lit< tt)) (wo 1 (lit< tt)) (wz 2 (lit< tt)) (wo 3 (lit< tt)))) (lane_gap (number_at (f0 ∷ f1 ∷ f2 ∷ f3 ∷ [])) (number_at (o0 ∷ z1 ∷ z2 ∷ o3 ∷ [])) (number_at (z0 ∷ o1 ∷ o2 ∷ z3 ∷ [])) wf (at_four_places (λ (p : ℕ). Within 600049149 (number_at (o0 ∷ z1 ∷ z2 ∷ o3 ∷ []) p)) (wo 0 (lit< tt)) (wz 1 (lit< tt)) (wz 2 (lit< tt)) (wo 3 (lit< tt))) (at_four_places (λ (p : ℕ). Within 600049149 (number_at (z0 ∷ o1 ∷ o2 ∷ z3 ∷ []) p)) (wz 0 (lit< tt)) (wo 1 (lit< tt)) (wo 2 (lit< tt)) (wz 3 (lit< tt)))) (lane_gap (number_at (f0 ∷ f1 ∷ f2 ∷ f3 ∷ [])) (number_at (o0 ∷ z1 ∷ z2 ∷ o3 ∷ [])) (number_at (z0 ∷ o1 ∷ o2 ∷ z3 ∷ [])) wf (at_four_places (λ (p : ℕ). Within 600049149 (number_at (o0 ∷ z1 ∷ z2 ∷ o3 ∷ []) p)) (wo 0 (lit< tt)) (wz 1 (lit< tt)) (wz 2 (lit< tt)) (wo 3 (lit< tt))) (at_four_places (λ (p : ℕ). Within 600049149 (number_at (z0 ∷ o1 ∷ o2 ∷ z3 ∷ []) p)) (wz 0 (lit< tt)) (wo 1 (lit< tt)) (wo 2 (lit< tt)) (wz 3 (lit< tt)))))))
