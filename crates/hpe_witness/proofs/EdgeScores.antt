-- Sums of few numbers fit, and mean what they say.
use Rattle.std.proofs.Common.{◌≡◌, ap, ap₂, sym, ◌∙◌, subst, arith, Bool, true, false, cond, ℤ, pos, ◌+ℤ◌, ◌≤ℤ◌, ◌<ℤ◌, w32, FitsSigned}
use Rattle.std.proofs.lemmas.Int.{ints}
use lib.Signed.{le_z, lt_z}
use Rattle.hpe_base.specs.Sizes.{Within}
use Rattle.hpe_lane.proofs.OuterFits.{kept_z, clean, fits}

-- a number or 0 is no larger than the number
pub chosen_within : (b : Bool) (z : ℤ) → Within 16383 z → Within 16383 (cond b z (pos 0))
chosen_within true z h = h
chosen_within false z h = (omega (arith, ints), omega (arith, ints))

pub same_number : (z : ℤ) → Within 16383 z → kept_z z ≡ z
same_number z h = omega (arith, ints)

three_sum : (a b c : ℤ) → Within 16383 a → Within 16383 b → Within 16383 c → kept_z a +ℤ kept_z (kept_z b +ℤ kept_z c) ≡ a +ℤ (b +ℤ c)
three_sum a b c ha hb hc = omega (arith, ints)

three_small : (a b c : ℤ) → Within 16383 a → Within 16383 b → Within 16383 c → Within 1300000000 (a +ℤ (b +ℤ c))
three_small a b c ha hb hc = (omega (arith, ints), omega (arith, ints))

-- three such numbers add up
pub three_fit : (a b c : ℤ) → Within 16383 a → Within 16383 b → Within 16383 c → FitsSigned w32 (kept_z a +ℤ kept_z (kept_z b +ℤ kept_z c))
three_fit a b c ha hb hc = subst (FitsSigned w32) (sym (three_sum a b c ha hb hc)) (fits (a +ℤ (b +ℤ c)) (three_small a b c ha hb hc))

pub three_are : (a b c : ℤ) → Within 16383 a → Within 16383 b → Within 16383 c → kept_z (kept_z a +ℤ kept_z (kept_z b +ℤ kept_z c)) ≡ a +ℤ (b +ℤ (c +ℤ pos 0))
three_are a b c ha hb hc = omega (arith, ints)

pub three_within : (a b c : ℤ) → Within 16383 a → Within 16383 b → Within 16383 c → Within 49149 (kept_z (kept_z a +ℤ kept_z (kept_z b +ℤ kept_z c)))
three_within a b c ha hb hc = (omega (arith, ints), omega (arith, ints))

-- a potential and an edge, and the potential that they are compared with
pub sum_is : (a e : ℤ) → Within 600000000 a → Within 49149 e → kept_z (kept_z a +ℤ kept_z e) ≡ a +ℤ e
sum_is a e ha he = omega (arith, ints)

pub potential_is : (a : ℤ) → Within 600000000 a → kept_z a ≡ a
potential_is a h = omega (arith, ints)

le_from : (a b : ℤ) → le_z a b ≡ true → a ≤ℤ b
le_from a b h = grind (arith, ints)

lt_from : (a b : ℤ) → le_z a b ≡ false → b <ℤ a
lt_from a b h = grind (arith, ints)

-- the comparison tells whether it rises
pub rises_from : (a e f d : ℤ) → Within 600000000 a → Within 49149 e → Within 600000000 d → e ≡ f → le_z (kept_z (kept_z a +ℤ kept_z e)) (kept_z d) ≡ true → (a +ℤ f) ≤ℤ d
rises_from a e f d ha he hd is h = subst (λ (z : ℤ). (a +ℤ z) ≤ℤ d) is (le_from (a +ℤ e) d (ap₂ le_z (sym (sum_is a e ha he)) (sym (potential_is d hd)) ∙ h))

pub falls_from : (a e f d : ℤ) → Within 600000000 a → Within 49149 e → Within 600000000 d → e ≡ f → le_z (kept_z (kept_z a +ℤ kept_z e)) (kept_z d) ≡ false → d <ℤ (a +ℤ f)
falls_from a e f d ha he hd is h = subst (λ (z : ℤ). d <ℤ (a +ℤ z)) is (lt_from (a +ℤ e) d (ap₂ le_z (sym (sum_is a e ha he)) (sym (potential_is d hd)) ∙ h))

-- a score so far, and an edge
score_small : (s e : ℤ) → Within 247710960 s → Within 49149 e → Within 1300000000 (s +ℤ e)
score_small s e hs he = (omega (arith, ints), omega (arith, ints))

score_sum : (s e : ℤ) → Within 49149 e → s +ℤ kept_z e ≡ s +ℤ e
score_sum s e he = omega (arith, ints)

pub score_fits : (s e : ℤ) → Within 247710960 s → Within 49149 e → FitsSigned w32 (s +ℤ kept_z e)
score_fits s e hs he = subst (FitsSigned w32) (sym (score_sum s e he)) (fits (s +ℤ e) (score_small s e hs he))

pub score_is : (s e : ℤ) → Within 247710960 s → Within 49149 e → kept_z (s +ℤ kept_z e) ≡ s +ℤ e
score_is s e hs he = ap kept_z (score_sum s e he) ∙ clean (s +ℤ e) (score_small s e hs he)

less_true : (a b : ℤ) → lt_z a b ≡ true → a <ℤ b
less_true a b h = grind (arith, ints)

less_false : (a b : ℤ) → lt_z a b ≡ false → b ≤ℤ a
less_false a b h = grind (arith, ints)

-- the comparison of two sums
pub less_from : (a e f b d g : ℤ) → Within 600000000 a → Within 49149 e → Within 600000000 b → Within 49149 d → e ≡ f → d ≡ g → lt_z (kept_z (kept_z a +ℤ kept_z e)) (kept_z (kept_z b +ℤ kept_z d)) ≡ true → (a +ℤ f) <ℤ (b +ℤ g)
less_from a e f b d g ha he hb hd x y h =
    less_true (a +ℤ f) (b +ℤ g) (ap₂ lt_z (sym (sum_is a e ha he ∙ ap (λ (z : ℤ). a +ℤ z) x)) (sym (sum_is b d hb hd ∙ ap (λ (z : ℤ). b +ℤ z) y)) ∙ h)

pub no_less_from : (a e f b d g : ℤ) → Within 600000000 a → Within 49149 e → Within 600000000 b → Within 49149 d → e ≡ f → d ≡ g → lt_z (kept_z (kept_z a +ℤ kept_z e)) (kept_z (kept_z b +ℤ kept_z d)) ≡ false → (b +ℤ g) ≤ℤ (a +ℤ f)
no_less_from a e f b d g ha he hb hd x y h =
    less_false (a +ℤ f) (b +ℤ g) (ap₂ lt_z (sym (sum_is a e ha he ∙ ap (λ (z : ℤ). a +ℤ z) x)) (sym (sum_is b d hb hd ∙ ap (λ (z : ℤ). b +ℤ z) y)) ∙ h)
