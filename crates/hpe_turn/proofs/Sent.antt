-- Where what was sent stands out, the first round keeps it.
use Rattle.std.proofs.Common.{◌≡◌, ◌-◌, ◌^◌, ◌<◌, ℕ, zero, suc, ℤ, pos, ◌-ℤ◌, List, [], ◌++◌, length, take, drop, replicate, true, sym, ◌∙◌, ap, subst, refl, arith, length-append}
use Rattle.std.specs.Prelude.{slice_index, ◌==◌}
use Rattle.std.proofs.Math.Seq.{drop-append_seam}
use Rattle.std.proofs.lemmas.List.{length-replicate}
use Rattle.std.proofs.lemmas.List.Elements.{All-append, All-get_or, All-from_get_or}
use Rattle.std.proofs.lemmas.Slice.Eq.{bytes_eq-Decides}
use Rattle.hpe_base.specs.Bits.{AreBits, bits_of}
use Rattle.hpe_base.specs.Sizes.{number_at}
use Rattle.hpe_base.specs.Parameters.{Parameters, IsValid, positions, codeword_bits, block_bits}
use Rattle.hpe_base.specs.Trellis.{IsPath}
use Rattle.hpe_base.specs.Randomiser.{randomised}
use Rattle.hpe_base.specs.Check.{check_bits}
use Rattle.hpe_base.specs.Termination.{terminated}
use Rattle.hpe_base.specs.ConvolutionalCode.{code_bits}
use Rattle.hpe_base.specs.CodeInterleaver.{pi, pi_inverse, interleaved}
use Rattle.hpe_base.specs.Accumulator.{accumulated}
use Rattle.hpe_base.specs.Mapper.{symbols_of}
use Rattle.hpe_base.specs.Codeword.{codeword}
use Rattle.hpe_base.specs.PathScores.{inner_score, outer_score}
use Rattle.hpe_base.specs.GreatestScores.{top_from, inner_top, information_top}
use Rattle.hpe_base.specs.SoftValues.{difference, clamped, scaled, inner_soft_value, inner_extrinsic, information_soft_value}
use Rattle.hpe_base.specs.Parameters.{information_bits}
use Rattle.hpe_base.specs.Rounds.{Kept, outer_numbers, hard_bit, hard_bits, is_right, verdict_of}
use Rattle.hpe_base.proofs.BitLists.{length-bits_of, are_bits-bits_of}
use Rattle.hpe_base.proofs.ParameterLemmas.{code_steps-ge}
use Rattle.hpe_base.proofs.Permutation.{pi-pi_inverse, pi-lt, pi_inverse-lt}
use Rattle.hpe_base.proofs.Tabulated.{length-tabulate, get_or-tabulate, tabulate_from_places}
use Rattle.hpe_base.proofs.Trellis.{path-length, bits_path, path_bits}
use Rattle.hpe_base.proofs.Shapes.{are_bits-randomised}
use Rattle.hpe_block.specs.Division.{divided_by}
use Rattle.hpe_block.proofs.Division.{divided_by_check}
use Rattle.hpe_block.proofs.Mixing.{randomised_twice}
use Rattle.hpe_turn.specs.Dominance.{Dominates}
use Rattle.hpe_turn.specs.FirstRight.{numbers_at, hard_at}
use Rattle.hpe_turn.proofs.FirstRight.{first_right}
use Rattle.hpe_turn.proofs.Halves.{whole_taken}
use Rattle.hpe_turn.proofs.Signs.{IsSigned, signed_soft, signed_clamped, signed_scaled, signed_hard}
use Rattle.hpe_turn.proofs.InnerLead.{inner_lead}
use Rattle.hpe_turn.proofs.OuterLead.{code_path, outer_lead}

zeros_at : (n j : ℕ) → number_at (replicate n (pos 0)) j ≡ pos 0
zeros_at zero j = refl
zeros_at (suc n) zero = refl
zeros_at (suc n) (suc j) = zeros_at n j

path_bit : (n : ℕ) (bits : List ℕ) (i : ℕ) → IsPath 2 n bits → i < n → slice_index bits i < 2
path_bit n bits i h b = All-get_or (λ b. b < 2) bits i 0 (omega (arith, path-length 2 n bits h)) (path_bits n bits h)

interleaved_path : (code : List ℕ) → IsPath 2 codeword_bits code → IsPath 2 codeword_bits (interleaved code)
interleaved_path code h =
    let long : length (interleaved code) ≡ codeword_bits = length-tabulate codeword_bits _ in
    let bits : AreBits (interleaved code) = All-from_get_or (λ b. b < 2) (interleaved code) 0
    (λ k b. subst (λ v. v < 2) (sym (get_or-tabulate codeword_bits (λ j. slice_index code (pi j)) k 0 (omega arith))) (path_bit codeword_bits code (pi k) h (pi-lt k))) in
    subst (λ n. IsPath 2 n (interleaved code)) long (bits_path (interleaved code) bits)

module _ (p : Parameters) (valid : IsValid p) (block counts : List ℕ) (bits : AreBits block) (long : length block ≡ block_bits p.rate)
    (dominates : Dominates (positions p.order) counts (codeword p block)) where
  abbrev mixed : List ℕ
  mixed = randomised p block

  abbrev check : List ℕ
  check = check_bits p.check mixed

  abbrev sent : List ℕ
  sent = mixed ++ check

  abbrev code : List ℕ
  code = code_bits p.columns (terminated sent)

  abbrev zeros : List ℤ
  zeros = replicate codeword_bits (pos 0)

  long_mixed : length mixed ≡ block_bits p.rate
  long_mixed = length-tabulate (length block) _ ∙ long

  abbrev remainder : ℕ
  remainder = divided_by p.check (2 ^ 32 - 1) mixed

  check_is : bits_of 32 remainder ≡ check
  check_is = divided_by_check p.check mixed valid.range.check_high (are_bits-randomised p block)

  sent_path : IsPath 2 (information_bits p.rate) sent
  sent_path =
      let check_bits : AreBits check = subst AreBits check_is (are_bits-bits_of 32 remainder) in
      let long_check : length check ≡ 32 = ap length (sym check_is) ∙ length-bits_of 32 remainder in
      let whole : length sent ≡ information_bits p.rate = omega (arith, length-append mixed check, long_mixed, long_check, code_steps-ge p.rate) in
      subst (λ n. IsPath 2 n sent) whole (bits_path sent (All-append (λ b. b < 2) mixed check (are_bits-randomised p block) check_bits))

  woven_path : IsPath 2 codeword_bits (interleaved code)
  woven_path = interleaved_path code (code_path p valid sent sent_path)

  symbols_are : codeword p block ≡ symbols_of p.order (accumulated (interleaved code))
  unfolding codeword
  symbols_are = refl

  inner_signed : (j : ℕ) → j < codeword_bits → IsSigned (slice_index (interleaved code) j) (inner_soft_value p.order counts zeros j)
  unfolding inner_soft_value inner_top
  inner_signed j h =
      let d : Dominates (positions p.order) counts (symbols_of p.order (accumulated (interleaved code))) = subst (Dominates (positions p.order) counts) symbols_are dominates in
      let score : List ℕ → ℤ = inner_score p.order counts zeros in
      subst (λ (n : ℕ). IsSigned (slice_index (interleaved code) j) (difference (top_from (λ x. slice_index x j == 1) score n []) (top_from (λ x. slice_index x j == 0) score n [])))
      (sym (length-replicate codeword_bits (pos 0)))
      (signed_soft codeword_bits j score (interleaved code) h woven_path (λ x k. inner_lead p.order counts (interleaved code) x woven_path d k))

  extrinsic_signed : (j : ℕ) → j < codeword_bits → IsSigned (slice_index (interleaved code) j) (inner_extrinsic p counts zeros j)
  unfolding inner_extrinsic
  extrinsic_signed j h =
      subst (λ (z : ℤ). IsSigned (slice_index (interleaved code) j) (scaled p.scale (clamped (inner_soft_value p.order counts zeros j -ℤ z)))) (sym (zeros_at codeword_bits j))
      (signed_scaled p.scale (slice_index (interleaved code) j) (clamped (inner_soft_value p.order counts zeros j -ℤ pos 0)) valid.range.scale_low
      (signed_clamped (slice_index (interleaved code) j) (inner_soft_value p.order counts zeros j) (inner_signed j h)))

  -- what the outer code is given has the sign of each code bit
  numbers_signed : (i : ℕ) → i < codeword_bits → IsSigned (slice_index code i) (number_at (outer_numbers p counts zeros) i)
  unfolding outer_numbers
  numbers_signed i h =
      let e : ℕ = pi_inverse i in
      let bit : slice_index (interleaved code) e ≡ slice_index code i =
      get_or-tabulate codeword_bits (λ j. slice_index code (pi j)) e 0 (pi_inverse-lt i) ∙ ap (λ k. slice_index code k) (pi-pi_inverse i h) in
      subst (IsSigned (slice_index code i)) (sym (get_or-tabulate codeword_bits (λ k. inner_extrinsic p counts zeros (pi_inverse k)) i (pos 0) h))
      (subst (λ (b : ℕ). IsSigned b (inner_extrinsic p counts zeros e)) bit (extrinsic_signed e (pi_inverse-lt i)))

  long_numbers : length (outer_numbers p counts zeros) ≡ codeword_bits
  unfolding outer_numbers
  long_numbers = length-tabulate codeword_bits _

  -- the hard bits are the sent ones
  hard_are : hard_bits p (outer_numbers p counts zeros) ≡ sent
  unfolding hard_bits information_soft_value information_top
  hard_are =
      let n : ℕ = information_bits p.rate in
      let lo : List ℤ = outer_numbers p counts zeros in
      let score : List ℕ → ℤ = outer_score p.columns lo in
      sym (tabulate_from_places n (λ j. hard_bit (information_soft_value p.columns lo n j)) sent 0 (path-length 2 n sent sent_path)
      (λ j h. sym (signed_hard (slice_index sent j) (information_soft_value p.columns lo n j) (path_bit n sent j sent_path h)
      (signed_soft n j score sent h sent_path (λ u k. outer_lead p valid lo sent u long_numbers sent_path numbers_signed k)))))

  first_is : hard_at p counts 1 ≡ sent
  unfolding numbers_at
  first_is = hard_are

  front_is : take (block_bits p.rate) sent ≡ mixed
  front_is = whole_taken (block_bits p.rate) mixed check (sym long_mixed)

  -- and end in their check
  sent_right : is_right p sent ≡ true
  unfolding is_right
  sent_right =
      let back : drop (block_bits p.rate) sent ≡ check = ap (λ n. drop n sent) (sym long_mixed) ∙ drop-append_seam mixed check in
      (bytes_eq-Decides _ _).1 (back ∙ ap (check_bits p.check) (sym front_is))

  -- the first round keeps the block
  pub sent_is_kept : verdict_of p counts ≡ Kept 1 block
  sent_is_kept = first_right p counts 1 block (omega arith) valid.range.rounds_low (record {
    right = ap (is_right p) first_is ∙ sent_right;
    block_is = sym (ap (λ (hard : List ℕ). randomised p (take (block_bits p.rate) hard)) first_is ∙ ap (randomised p) front_is ∙ randomised_twice p block bits);
    first = λ s low high. absurd (omega arith);
  })
