-- A list of bits in octets.
use Rattle.std.proofs.Common.{◌≡◌, ◌+◌, ◌*◌, ◌<◌, ℕ, List, [], get_or, take, drop, sym, ◌∙◌, ap, arith, zero, suc}
use Rattle.std.specs.Simd.{first_chunks}
use Rattle.std.proofs.Math.Seq.{take-add}
use Rattle.std.proofs.lemmas.List.{drop-drop, take-append-drop}
use Rattle.hpe_block.specs.Division.{divided_by}
use Rattle.hpe_block.proofs.Division.{divided_by-append}

-- chunk i of n values
chunk_at : (n k : ℕ) (xs : List ℕ) (i : ℕ) → i < k → get_or (first_chunks n k xs) i [] ≡ take n (drop (i * n) xs)
chunk_at n zero xs i h = absurd (omega arith)
chunk_at n (suc k) xs zero h = let none : 0 * n ≡ 0 = omega arith in ap (λ m. take n (drop m xs)) (sym none)
chunk_at n (suc k) xs (suc i) h =
    let next : n + i * n ≡ suc i * n = grind arith in
    chunk_at n k (drop n xs) i (omega arith) ∙ ap (take n) (drop-drop (i * n) n xs ∙ ap (λ m. drop m xs) next)

pub chunk_is : (chunks : List (List ℕ)) (xs : List ℕ) (k i : ℕ) → chunks ≡ first_chunks 8 k xs → i < k → get_or chunks i [] ≡ take 8 (drop (i * 8) xs)
chunk_is chunks xs k i e h = ap (λ (l : List (List ℕ)). get_or l i []) e ∙ chunk_at 8 k xs i h

-- the next octet of a list
pub divided_by-octet : (check r : ℕ) (bits : List ℕ) (i : ℕ) →
    divided_by check (divided_by check r (take (i * 8) bits)) (take 8 (drop (i * 8) bits)) ≡ divided_by check r (take ((i + 1) * 8) bits)
divided_by-octet check r bits i =
    let next : (i + 1) * 8 ≡ i * 8 + 8 = omega arith in
    sym (ap (λ m. divided_by check r (take m bits)) next ∙ (ap (divided_by check r) (take-add (i * 8) 8 bits) ∙ divided_by-append check r (take (i * 8) bits) (take 8 (drop (i * 8) bits))))

-- what comes after the octets
pub divided_by-rest : (check r : ℕ) (bits : List ℕ) (n : ℕ) → divided_by check (divided_by check r (take n bits)) (drop n bits) ≡ divided_by check r bits
divided_by-rest check r bits n = sym (divided_by-append check r (take n bits) (drop n bits)) ∙ ap (divided_by check r) (take-append-drop n bits)
