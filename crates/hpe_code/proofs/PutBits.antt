-- The bits whose flag is set, place by place.
use Rattle.std.proofs.Common.{◌≡◌, ◌++◌, ◌+◌, ◌<◌, ◌≤◌, ℕ, List, [], ◌∷◌, length, get_or, take, ◌∙◌, ap, arith, suc, Bool, true, false, append_assoc, length-append}
use Rattle.std.proofs.Math.Seq.{take-suc-set}
use Rattle.std.proofs.Math.ListN.{set}
use Rattle.hpe_base.specs.ConvolutionalCode.{selected}
use Rattle.hpe_base.proofs.Selected.{length-selected-le, selected-set, selected-unset}

-- what is written once the first i flags are done
abbrev pub PutSoFar : List Bool → List ℕ → List ℕ → ℕ → ℕ → ℕ → List ℕ → Type 0
PutSoFar flags bits start at i next now =
    (next ≡ at + length (selected (take i flags) (take i bits)))
    × (take next now ≡ take at start ++ selected (take i flags) (take i bits))

-- where a flag is set there is room for its bit
pub room_for_one : (flags : List Bool) (bits start : List ℕ) (at i next : ℕ) (now : List ℕ) →
    i < length flags → i < length bits → at + length (selected flags bits) ≤ length now → get_or flags i false ≡ true →
    PutSoFar flags bits start at i next now → next < length now
room_for_one flags bits start at i next now h k room flag so_far =
    let len : length (selected (take (i + 1) flags) (take (i + 1) bits)) ≡ length (selected (take i flags) (take i bits)) + 1 =
    ap length (selected-set flags bits i h k flag) ∙ length-append _ _ in
    omega (arith, length-selected-le flags bits (i + 1), so_far.0)

-- it holds after a place whose flag is set
pub put-set : (flags : List Bool) (bits start : List ℕ) (at i : ℕ) (now : List ℕ) (next next' : ℕ) (now' : List ℕ) →
    i < length flags → i < length bits → next < length now → get_or flags i false ≡ true → next' ≡ next + 1 → now' ≡ set now next (get_or bits i 0) →
    PutSoFar flags bits start at i next now → PutSoFar flags bits start at (i + 1) next' now'
put-set flags bits start at i now next next' now' h k room flag next_is now_is so_far =
    let more : selected (take (i + 1) flags) (take (i + 1) bits) ≡ selected (take i flags) (take i bits) ++ get_or bits i 0 ∷ [] = selected-set flags bits i h k flag in
    let len : length (selected (take (i + 1) flags) (take (i + 1) bits)) ≡ length (selected (take i flags) (take i bits)) + 1 = ap length more ∙ length-append _ _ in
    let front : take (suc next) (set now next (get_or bits i 0)) ≡ take next now ++ get_or bits i 0 ∷ [] = take-suc-set now next _ room in
    let e : next' ≡ suc next = omega arith in (
      omega arith,
      rw (e, now_is, more) (front ∙ (ap (λ w. w ++ get_or bits i 0 ∷ []) so_far.1 ∙ append_assoc (take at start) (selected (take i flags) (take i bits)) _)),
    )

-- it holds after a place whose flag is not set
pub put-unset : (flags : List Bool) (bits start : List ℕ) (at i : ℕ) (now : List ℕ) (next next' : ℕ) (now' : List ℕ) →
    i < length flags → i < length bits → get_or flags i false ≡ false → next' ≡ next → now' ≡ now →
    PutSoFar flags bits start at i next now → PutSoFar flags bits start at (i + 1) next' now'
put-unset flags bits start at i now next next' now' h k flag next_is now_is so_far =
    rw (selected-unset flags bits i h k flag, next_is, now_is) so_far
