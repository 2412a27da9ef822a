-- The loop over the rounds: the first that is right gives the verdict.
use Rattle.std.proofs.Common.{◌≡◌, ◌+◌, ◌<◌, ◌≤◌, ℕ, zero, suc, ℤ, pos, List, Bool, true, false, cond, take, replicate, sym, ◌∙◌, ap, ap₂, refl, arith, inl, inr}
use Rattle.std.proofs.lemmas.Bool.{cases_eq}
use Rattle.hpe_base.specs.Parameters.{Parameters, codeword_bits, block_bits}
use Rattle.hpe_base.specs.Randomiser.{randomised}
use Rattle.hpe_base.specs.Rounds.{Verdict, Kept, Lost, outer_numbers, hard_bits, next_numbers, is_right, verdict_from, verdict_of}
use Rattle.hpe_turn.specs.FirstRight.{numbers_at, hard_at, IsFirstRight}

one_more : (n : ℕ) → n + 1 ≡ suc n
one_more n = omega arith

module _ (p : Parameters) (counts : List ℕ) where
  abbrev block_at : ℕ → List ℕ
  block_at r = randomised p (take (block_bits p.rate) (hard_at p counts r))

  abbrev verdict_at : ℕ → ℕ → Verdict
  verdict_at left q = verdict_from p counts left (suc q) (numbers_at p counts (suc q))

  -- a round is right, or goes over to the next
  round_is : (left q : ℕ) (right : Bool) → is_right p (hard_at p counts (suc q)) ≡ right
      → verdict_at (suc left) q ≡ cond right (Kept (suc q) (block_at (suc q))) (verdict_at left (suc q))
  unfolding verdict_from numbers_at
  round_is left q right e =
      ap (λ (b : Bool). cond b (Kept (suc q) (block_at (suc q))) (verdict_from p counts left (suc q + 1) (numbers_at p counts (suc (suc q))))) e
      ∙ ap (λ (r : ℕ). cond right (Kept (suc q) (block_at (suc q))) (verdict_from p counts left r (numbers_at p counts (suc (suc q))))) (one_more (suc q))

  -- round r is the first that is right of those from round q + 1 on
  first_is : (left q r : ℕ) (block : List ℕ) → suc q ≤ r → r < suc q + left → ((s : ℕ) → suc q ≤ s → s < r → is_right p (hard_at p counts s) ≡ false)
      → is_right p (hard_at p counts r) ≡ true → block ≡ block_at r → verdict_at left q ≡ Kept r block
  first_is zero q r block low high wrong right b = absurd (omega arith)
  first_is (suc left) q r block low high wrong right b =
      elim (cases_eq (suc q) r) [
        | inl here ↦
            round_is left q true (ap (λ (s : ℕ). is_right p (hard_at p counts s)) here ∙ right)
            ∙ ap₂ (λ (s : ℕ) (xs : List ℕ). Kept s xs) here (ap block_at here ∙ sym b)
        | inr later ↦
            round_is left q false (wrong (suc q) (omega arith) (omega arith))
            ∙ first_is left (suc q) r block (omega arith) (omega arith) (λ s h k. wrong s (omega arith) k) right b
      ]

  -- no round from q + 1 on is right
  none_is : (left q : ℕ) → ((s : ℕ) → suc q ≤ s → s < suc q + left → is_right p (hard_at p counts s) ≡ false) → verdict_at left q ≡ Lost
  unfolding verdict_from
  none_is zero q wrong = refl
  none_is (suc left) q wrong =
      round_is left q false (wrong (suc q) (omega arith) (omega arith))
      ∙ none_is left (suc q) (λ s h k. wrong s (omega arith) (omega arith))

  verdict_is : verdict_of p counts ≡ verdict_at p.rounds 0
  unfolding verdict_of numbers_at
  verdict_is = refl

  -- the first right round gives the verdict
  pub first_right : (r : ℕ) (block : List ℕ) → 1 ≤ r → r ≤ p.rounds → IsFirstRight p counts r block → verdict_of p counts ≡ Kept r block
  first_right r block low high h = verdict_is ∙ first_is p.rounds 0 r block low (omega arith) h.first h.right h.block_is

  -- the a-priori numbers after so many rounds, of which none was right
  pub record HasGone (before : ℕ) (l : List ℤ) : Type 0 where
    pub numbers : l ≡ numbers_at p counts (before + 1)
    pub wrong : (s : ℕ) → 1 ≤ s → s ≤ before → is_right p (hard_at p counts s) ≡ false

  pub HasGone-none : (l : List ℤ) → l ≡ replicate codeword_bits (pos 0) → HasGone 0 l
  unfolding numbers_at
  HasGone-none l e = record { numbers = e; wrong = λ s h k. absurd (omega arith) }

  -- the hard bits that the next round decides
  hard_is : (before : ℕ) (l lo : List ℤ) (hard : List ℕ) → HasGone before l → lo ≡ outer_numbers p counts l → hard ≡ hard_bits p lo → hard ≡ hard_at p counts (before + 1)
  hard_is before l lo hard g el eh = eh ∙ ap (hard_bits p) (el ∙ ap (outer_numbers p counts) g.numbers)

  next_is : (r : ℕ) → next_numbers p (outer_numbers p counts (numbers_at p counts (suc r))) ≡ numbers_at p counts (suc (suc r))
  unfolding numbers_at
  next_is r = refl

  pub HasGone-more : (before : ℕ) (l lo next : List ℤ) (hard : List ℕ) → HasGone before l → lo ≡ outer_numbers p counts l → hard ≡ hard_bits p lo
      → is_right p hard ≡ false → next ≡ next_numbers p lo → HasGone (before + 1) next
  HasGone-more before l lo next hard g el eh w en = record {
    numbers =
        let more : before + 1 ≡ suc before = omega arith in
        let twice : suc (suc before) ≡ before + 1 + 1 = omega arith in
        en ∙ ap (next_numbers p) (el ∙ ap (outer_numbers p counts) (g.numbers ∙ ap (numbers_at p counts) more))
        ∙ next_is before ∙ ap (numbers_at p counts) twice;
    wrong = λ s low high.
        elim (cases_eq s (before + 1)) [
          | inl here ↦ ap (λ (k : ℕ). is_right p (hard_at p counts k)) here ∙ ap (is_right p) (sym (hard_is before l lo hard g el eh)) ∙ w
          | inr earlier ↦ g.wrong s low (omega arith)
        ];
  }

  -- the next round is the first that is right
  pub HasGone-right : (before : ℕ) (l lo : List ℤ) (hard block : List ℕ) → HasGone before l → lo ≡ outer_numbers p counts l → hard ≡ hard_bits p lo
      → is_right p hard ≡ true → block ≡ randomised p (take (block_bits p.rate) hard) → IsFirstRight p counts (before + 1) block
  HasGone-right before l lo hard block g el eh r b =
      let e : hard ≡ hard_at p counts (before + 1) = hard_is before l lo hard g el eh in
      record {
        right = ap (is_right p) (sym e) ∙ r;
        block_is = b ∙ ap (λ (xs : List ℕ). randomised p (take (block_bits p.rate) xs)) e;
        first = λ s low high. g.wrong s low (omega arith);
      }

  -- all rounds have gone
  pub HasGone-all : (before : ℕ) (l : List ℤ) → p.rounds ≤ before → HasGone before l → verdict_of p counts ≡ Lost
  HasGone-all before l all g = verdict_is ∙ none_is p.rounds 0 (λ s low high. g.wrong s low (omega arith))
