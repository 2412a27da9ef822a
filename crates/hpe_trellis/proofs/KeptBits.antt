-- What is kept splits at every step, and the outer score is that of a path.
use Rattle.std.proofs.Common.{◌≡◌, ℕ, zero, suc, ◌+◌, ◌-◌, ◌*◌, ◌/◌, ◌%◌, ◌<◌, ◌≤◌, sym, ◌∙◌, ap, ap₂, refl, arith, ℤ, pos, ◌+ℤ◌, List, [], ◌∷◌, ◌++◌, length, drop, get_or, Bool, cond, add-zero, zero-add, add-one, length-append, replicate}
use Rattle.std.specs.Prelude.{nat_eq}
use Rattle.std.proofs.lemmas.Bool.{le-leb}
use Rattle.std.proofs.lemmas.List.{drop-drop, length-replicate}
use Rattle.std.proofs.Math.IntN.{+ℤ_assoc, +ℤ_idl}
use Rattle.hpe_base.specs.Trellis.{walk, IsPath}
use Rattle.hpe_base.specs.PathScores.{chosen_sum}
use Rattle.hpe_base.specs.Lists.{joined}
use Rattle.hpe_base.specs.ConvolutionalCode.{earlier, outputs, selected, kept_at, code_bits}
use Rattle.hpe_base.proofs.Tabulated.{joined-same, joined-none, joined-first}
use Rattle.hpe_base.proofs.Trellis.{stage-suc, earlier-none, chosen_sum-none}
use Rattle.hpe_lane.specs.OuterStage.{outer_next, edge_outputs}
use Rattle.hpe_lane.proofs.OuterEdges.{outer-stays}
use Rattle.hpe_trellis.specs.OuterTrellis.{column, width, kept_before, outer_edge}
use Rattle.hpe_base.proofs.Selected.{length-selected-same}

-- the outputs for an input after a, and b before that
abbrev outputs_after : ℕ → ℕ → ℕ → List ℕ
outputs_after x a b = outputs (b ∷ a ∷ x ∷ []) 2

-- what is kept from step t on, the two inputs before it being a and, before that, b
abbrev pub kept_from : List (List Bool) → ℕ → ℕ → ℕ → List ℕ → List ℕ
kept_from columns t a b [] = []
kept_from columns t a b (x ∷ u) = selected (column columns t) (outputs_after x a b) ++ kept_from columns (t + 1) x a u

-- the input one step before step s, and two steps before
abbrev prior1 : ℕ → List ℕ → ℕ → ℕ
prior1 a u zero = a
prior1 a u (suc s) = get_or u s 0

abbrev prior2 : ℕ → ℕ → List ℕ → ℕ → ℕ
prior2 a b u zero = b
prior2 a b u (suc s) = prior1 a u s

-- what step t + s keeps
abbrev placed : List (List Bool) → ℕ → ℕ → ℕ → List ℕ → ℕ → List ℕ
placed columns t a b u s = selected (column columns (t + s)) (outputs_after (get_or u s 0) (prior1 a u s) (prior2 a b u s))

prior1-cons : (a x : ℕ) (u : List ℕ) (s : ℕ) → get_or (x ∷ u) s 0 ≡ prior1 x u s
prior1-cons a x u zero = refl
prior1-cons a x u (suc s) = refl

prior2-cons : (a x : ℕ) (u : List ℕ) (s : ℕ) → prior1 a (x ∷ u) s ≡ prior2 x a u s
prior2-cons a x u zero = refl
prior2-cons a x u (suc s) = prior1-cons a x u s

placed-cons : (columns : List (List Bool)) (t a b x : ℕ) (u : List ℕ) (s : ℕ) → placed columns t a b (x ∷ u) (suc s) ≡ placed columns (t + 1) x a u s
placed-cons columns t a b x u s =
    ap (λ (k : ℕ). selected (column columns k) (outputs_after (get_or u s 0) (get_or (x ∷ u) s 0) (prior1 a (x ∷ u) s))) (stage-suc t s)
    ∙ ap₂ (λ (y z : ℕ). selected (column columns (t + 1 + s)) (outputs_after (get_or u s 0) y z)) (prior1-cons a x u s) (prior2-cons a x u s)

-- all steps from step t on
placed-is : (columns : List (List Bool)) (t a b : ℕ) (u : List ℕ) → joined (length u) (placed columns t a b u) ≡ kept_from columns t a b u
placed-is columns t a b [] = joined-none (placed columns t a b [])
placed-is columns t a b (x ∷ u) =
    joined-first (length u) (placed columns t a b (x ∷ u))
    ∙ ap₂ (λ (xs ys : List ℕ). xs ++ ys) (ap (λ (k : ℕ). selected (column columns k) (outputs_after x a b)) (add-zero t))
    (joined-same (length u) (λ s. placed columns t a b (x ∷ u) (suc s)) (placed columns (t + 1) x a u) (λ s h. placed-cons columns t a b x u s)
    ∙ placed-is columns (t + 1) x a u)

less_one : (t : ℕ) → suc t - 1 ≡ t
less_one t = omega arith

less_two : (t : ℕ) → suc (suc t) - 2 ≡ t
less_two t = omega arith

earlier_last : (u : List ℕ) (t : ℕ) → earlier u t 1 ≡ prior1 0 u t
earlier_last u zero = refl
earlier_last u (suc t) =
    let h : 1 ≤ suc t = omega arith in
    ap (λ (b : Bool). cond b (get_or u (suc t - 1) 0) 0) (le-leb 1 (suc t) h) ∙ ap (λ (k : ℕ). get_or u k 0) (less_one t)

earlier_before : (u : List ℕ) (t : ℕ) → earlier u t 2 ≡ prior2 0 0 u t
earlier_before u zero = refl
earlier_before u (suc zero) = refl
earlier_before u (suc (suc t)) =
    let h : 2 ≤ suc (suc t) = omega arith in
    ap (λ (b : Bool). cond b (get_or u (suc (suc t) - 2) 0) 0) (le-leb 2 (suc (suc t)) h) ∙ ap (λ (k : ℕ). get_or u k 0) (less_two t)

outputs-are : (u : List ℕ) (t : ℕ) → outputs u t ≡ outputs_after (get_or u t 0) (prior1 0 u t) (prior2 0 0 u t)
outputs-are u t =
    ap₂ (λ (x b : ℕ). ((x + b) % 2) ∷ ((x + earlier u t 1 + b) % 2) ∷ ((x + earlier u t 1 + b) % 2) ∷ []) (earlier-none u t) (earlier_before u t)
    ∙ ap (λ (a : ℕ). outputs_after (get_or u t 0) a (prior2 0 0 u t)) (earlier_last u t)

-- what a step keeps
placed_here : (columns : List (List Bool)) (u : List ℕ) (s : ℕ) → kept_at columns u s ≡ placed columns 0 0 0 u s
placed_here columns u s =
    ap (selected (column columns s)) (outputs-are u s)
    ∙ ap (λ (k : ℕ). selected (column columns k) (outputs_after (get_or u s 0) (prior1 0 u s) (prior2 0 0 u s))) (sym (zero-add s))

-- the code bits, step by step from the first on
pub code_bits-are : (columns : List (List Bool)) (u : List ℕ) → code_bits columns u ≡ kept_from columns 0 0 0 u
code_bits-are columns u =
    joined-same (length u) (kept_at columns u) (placed columns 0 0 0 u) (λ s h. placed_here columns u s) ∙ placed-is columns 0 0 0 u

next_before : (columns : List (List Bool)) (t : ℕ) → kept_before columns t + width columns t ≡ kept_before columns (t + 1)
next_before columns t = ap (kept_before columns) (sym (add-one t))

-- how many are kept from step t on
length-kept_from : (columns : List (List Bool)) (t a b : ℕ) (u : List ℕ) → kept_before columns t + length (kept_from columns t a b u) ≡ kept_before columns (t + length u)
length-kept_from columns t a b [] = add-zero (kept_before columns t) ∙ ap (kept_before columns) (sym (add-zero t))
length-kept_from columns t a b (x ∷ u) =
    let here : length (selected (column columns t) (outputs_after x a b)) ≡ width columns t = length-selected-same (column columns t) (outputs_after x a b) (0 ∷ 0 ∷ 0 ∷ []) refl in
    let rest : kept_before columns (t + 1) + length (kept_from columns (t + 1) x a u) ≡ kept_before columns (t + 1 + length u) = length-kept_from columns (t + 1) x a u in
    let next : kept_before columns t + width columns t ≡ kept_before columns (t + 1) = next_before columns t in
    let all : kept_before columns (t + suc (length u)) ≡ kept_before columns (t + 1 + length u) = ap (kept_before columns) (stage-suc t (length u)) in
    omega (arith, length-append (selected (column columns t) (outputs_after x a b)) (kept_from columns (t + 1) x a u))

-- the code bits of n steps fill the places before step n
pub length-code : (columns : List (List Bool)) (u : List ℕ) → length (code_bits columns u) ≡ kept_before columns (length u)
length-code columns u =
    ap length (code_bits-are columns u) ∙ sym (zero-add (length (kept_from columns 0 0 0 u)))
    ∙ length-kept_from columns 0 0 0 u ∙ ap (kept_before columns) (zero-add (length u))

-- as many numbers as code bits of n steps
pub kept_total : (columns : List (List Bool)) (n m : ℕ) → ((u : List ℕ) → length u ≡ n → m ≡ length (code_bits columns u)) → m ≡ kept_before columns n
kept_total columns n m h =
    let e : length (replicate n 0) ≡ n = length-replicate n 0 in
    h (replicate n 0) e ∙ length-code columns (replicate n 0) ∙ ap (kept_before columns) e

chosen_empty : (n : ℕ) (k : List ℕ) → pos 0 ≡ pos 0 +ℤ chosen_sum (drop n []) k
chosen_empty zero k = refl
chosen_empty (suc n) k = refl

-- the sum over two lists of bits
chosen-append : (l : List ℤ) (j k : List ℕ) → chosen_sum l (j ++ k) ≡ chosen_sum l j +ℤ chosen_sum (drop (length j) l) k
chosen-append [] [] k = refl
chosen-append [] (b ∷ j) k = chosen_empty (suc (length j)) k
chosen-append (z ∷ l) [] k = sym (+ℤ_idl (chosen_sum (z ∷ l) k))
chosen-append (z ∷ l) (b ∷ j) k =
    ap (λ (y : ℤ). cond (nat_eq b 1) z (pos 0) +ℤ y) (chosen-append l j k)
    ∙ sym (+ℤ_assoc (cond (nat_eq b 1) z (pos 0)) (chosen_sum l j) (chosen_sum (drop (length j) l) k))

-- the next state has the input, and the last input before it
pub halves : (x p : ℕ) → p < 4 → (2 * x + p / 2) / 2 ≡ x
halves x p h = omega arith

pub parity : (x p : ℕ) → p < 4 → (2 * x + p / 2) % 2 ≡ p / 2
parity x p h = omega arith

-- from step t on
outer-walk-is : (columns : List (List Bool)) (l : List ℤ) (n t p : ℕ) (us : List ℕ) → p < 4 → IsPath 2 n us
    → chosen_sum (drop (kept_before columns t) l) (kept_from columns t (p / 2) (p % 2) us) ≡ walk (outer_edge columns l) outer_next t p us
outer-walk-is columns l zero t p [] low h = chosen_sum-none (drop (kept_before columns t) l)
outer-walk-is columns l zero t p (x ∷ us) low h = absurd h
outer-walk-is columns l (suc n) t p [] low h = absurd h
outer-walk-is columns l (suc n) t p (x ∷ us) low h =
    let ks : List ℕ = selected (column columns t) (edge_outputs p x) in
    let L : List ℤ = drop (kept_before columns t) l in
    let q : ℕ = 2 * x + p / 2 in
    let long : length ks ≡ width columns t = length-selected-same (column columns t) (edge_outputs p x) (0 ∷ 0 ∷ 0 ∷ []) refl in
    let off : drop (length ks) L ≡ drop (kept_before columns (t + 1)) l =
    drop-drop (length ks) (kept_before columns t) l ∙ ap (λ (k : ℕ). drop (kept_before columns t + k) l) long ∙ ap (λ (k : ℕ). drop k l) (next_before columns t) in
    let states : kept_from columns (t + 1) x (p / 2) us ≡ kept_from columns (t + 1) (q / 2) (q % 2) us =
    ap₂ (λ (a b : ℕ). kept_from columns (t + 1) a b us) (sym (halves x p low)) (sym (parity x p low)) in
    chosen-append L ks (kept_from columns (t + 1) x (p / 2) us)
    ∙ ap₂ (λ (ys : List ℤ) (zs : List ℕ). chosen_sum L ks +ℤ chosen_sum ys zs) off states
    ∙ ap (λ (z : ℤ). chosen_sum L ks +ℤ z) (outer-walk-is columns l n (t + 1) q us (outer-stays p x low h.0) h.1)

-- the numbers that code bits choose are what their path scores
pub outer-score-is : (columns : List (List Bool)) (l : List ℤ) (n : ℕ) (us : List ℕ) → IsPath 2 n us → chosen_sum l (code_bits columns us) ≡ walk (outer_edge columns l) outer_next 0 0 us
outer-score-is columns l n us h = ap (chosen_sum l) (code_bits-are columns us) ∙ outer-walk-is columns l n 0 0 us (omega arith) h
