-- The greatest score of all paths, from a forward row, the edges of a stage and a backward row.
use Rattle.std.proofs.Common.{◌≡◌, ℕ, zero, suc, ◌+◌, ◌<◌, sym, ◌∙◌, ap, subst, refl, arith, ℤ, pos, ◌+ℤ◌, ◌≤ℤ◌, List, [], ◌∷◌, ◌++◌, length, get_or, replicate, add-zero, zero-add}
use Rattle.std.proofs.Math.Nat.{suc-add}
use Rattle.std.proofs.Math.IntN.{+ℤ_assoc, +ℤ_idl, +ℤ_idr}
use Rattle.std.proofs.lemmas.Bool.Decides.{nat_tests}
use Rattle.std.proofs.lemmas.Int.{ints}
use Rattle.hpe_base.specs.Greatest.{IsGreatest}
use Rattle.hpe_base.specs.Bits.{AreBits}
use Rattle.hpe_base.specs.Trellis.{walk, ends, IsPath, IsEdge, state_at}
use Rattle.hpe_base.specs.ConvolutionalCode.{earlier}
use Rattle.hpe_base.specs.PathScores.{chosen_sum}
use Rattle.hpe_base.proofs.BitLists.{are_bits-none, are_bits-cons, are_bits-tail}

-- the stages from t on: one, and those from the next
pub stage-suc : (t n : ℕ) → t + suc n ≡ t + 1 + n
stage-suc t n = omega arith

-- a path between ends that score nothing
pub zero-walk-zero : (w : ℤ) → (pos 0 +ℤ w) +ℤ pos 0 ≡ w
zero-walk-zero w = +ℤ_idr (pos 0 +ℤ w) ∙ +ℤ_idl w

-- the numbers of no bit
pub chosen_sum-none : (l : List ℤ) → chosen_sum l [] ≡ pos 0
chosen_sum-none [] = refl
chosen_sum-none (z ∷ l) = refl

-- the bit that enters at a step
pub earlier-none : (u : List ℕ) (t : ℕ) → earlier u t 0 ≡ get_or u t 0
earlier-none u t = grind (arith, nat_tests)

-- a path in two parts
pub walk-append : (edge : ℕ → ℕ → ℕ → ℤ) (next : ℕ → ℕ → ℕ) (t p : ℕ) (us vs : List ℕ)
    → walk edge next t p (us ++ vs) ≡ walk edge next t p us +ℤ walk edge next (t + length us) (ends next p us) vs
walk-append edge next t p [] vs = sym (+ℤ_idl (walk edge next t p vs)) ∙ ap (λ (k : ℕ). pos 0 +ℤ walk edge next k p vs) (sym (add-zero t))
walk-append edge next t p (u ∷ us) vs =
    ap (λ (z : ℤ). edge t p u +ℤ z) (walk-append edge next (t + 1) (next p u) us vs)
    ∙ sym (+ℤ_assoc (edge t p u) (walk edge next (t + 1) (next p u) us) (walk edge next (t + 1 + length us) (ends next (next p u) us) vs))
    ∙ ap (λ (k : ℕ). (edge t p u +ℤ walk edge next (t + 1) (next p u) us) +ℤ walk edge next k (ends next (next p u) us) vs) (sym (stage-suc t (length us)))

-- the state after both parts of a path
pub ends-append : (next : ℕ → ℕ → ℕ) (p : ℕ) (us vs : List ℕ) → ends next p (us ++ vs) ≡ ends next (ends next p us) vs
ends-append next p [] vs = refl
ends-append next p (u ∷ us) vs = ends-append next (next p u) us vs

-- a path stays among the states
pub ends-below : (size states n : ℕ) (next : ℕ → ℕ → ℕ) → ((p u : ℕ) → p < states → u < size → next p u < states)
    → (p : ℕ) (us : List ℕ) → p < states → IsPath size n us → ends next p us < states
ends-below size states zero next h p [] low all = low
ends-below size states zero next h p (u ∷ us) low all = absurd all
ends-below size states (suc n) next h p [] low all = absurd all
ends-below size states (suc n) next h p (u ∷ us) low all = ends-below size states n next h (next p u) us (h p u low all.0) all.1

-- the greatest of all paths of n inputs on from stage t and state p, the states at the end scoring `fin`
abbrev pub Back : ℕ → (ℕ → ℕ → ℕ → ℤ) → (ℕ → ℕ → ℕ) → (ℕ → ℤ) → ℕ → ℕ → ℕ → ℤ → Type 0
Back size edge next fin t n p b = IsGreatest (IsPath size n) (λ us. walk edge next t p us +ℤ fin (ends next p us)) b

-- the score of an edge in front of a path
regroup : (e w f b : ℤ) → w +ℤ f ≡ b → (e +ℤ w) +ℤ f ≡ e +ℤ b
regroup e w f b h = omega (arith, ints)

-- the same with bounds
regroup_le : (e w f b z : ℤ) → (w +ℤ f) ≤ℤ b → (e +ℤ b) ≤ℤ z → ((e +ℤ w) +ℤ f) ≤ℤ z
regroup_le e w f b z h k = omega (arith, ints)

-- nothing and f is at most f
zero_le_z : (f : ℤ) → (pos 0 +ℤ f) ≤ℤ f
zero_le_z f = omega (arith, ints)

-- no stage is left
none_left : (size : ℕ) (edge : ℕ → ℕ → ℕ → ℤ) (next : ℕ → ℕ → ℕ) (fin : ℕ → ℤ) (t p : ℕ) (us : List ℕ) → IsPath size 0 us → (walk edge next t p us +ℤ fin (ends next p us)) ≤ℤ fin p
none_left size edge next fin t p [] h = zero_le_z (fin p)
none_left size edge next fin t p (u ∷ us) h = absurd h

-- after the last stage the backward row is what the states score by themselves
pub back_last : (size : ℕ) (edge : ℕ → ℕ → ℕ → ℤ) (next : ℕ → ℕ → ℕ) (fin : ℕ → ℤ) (t p : ℕ) → Back size edge next fin t 0 p (fin p)
back_last size edge next fin t p = record {
  reached = ([], (tt, +ℤ_idl (fin p)));
  bound = none_left size edge next fin t p;
}

module _ (size states : ℕ) (edge : ℕ → ℕ → ℕ → ℤ) (next : ℕ → ℕ → ℕ) (fin : ℕ → ℤ)
    (stays : (p u : ℕ) → p < states → u < size → next p u < states) where
  -- no path that goes on from a stage scores more than the best edge with the row behind it
  back_bound : (t n p : ℕ) (b : ℤ) (row : ℕ → ℤ) → p < states
      → ((q : ℕ) → q < states → Back size edge next fin (t + 1) n q (row q))
      → ((u : ℕ) → u < size → (edge t p u +ℤ row (next p u)) ≤ℤ b)
      → (us : List ℕ) → IsPath size (suc n) us → (walk edge next t p us +ℤ fin (ends next p us)) ≤ℤ b
  back_bound t n p b row low later best [] h = absurd h
  back_bound t n p b row low later best (u ∷ us) h =
      regroup_le _ _ _ _ _ ((later (next p u) (stays p u low h.0)).bound us h.1) (best u h.0)

  -- one stage back
  pub back_step : (t n p : ℕ) (b : ℤ) (row : ℕ → ℤ) → p < states
      → ((q : ℕ) → q < states → Back size edge next fin (t + 1) n q (row q))
      → IsGreatest (λ (u : ℕ). u < size) (λ u. edge t p u +ℤ row (next p u)) b
      → Back size edge next fin t (suc n) p b
  back_step t n p b row low later best =
      let u : ℕ = best.reached.0 in
      let w = later (next p u) (stays p u low best.reached.1.0) in
      record {
        reached = (u ∷ w.reached.0, ((best.reached.1.0, w.reached.1.0), regroup _ _ _ _ w.reached.1.1 ∙ best.reached.1.1));
        bound = back_bound t n p b row low later best.bound;
      }

-- a path of `n` inputs from a state of the start
abbrev pub IsRun : ℕ → ℕ → ℕ → ℕ × List ℕ → Type 0
IsRun size states n r = (r.0 < states) × IsPath size n r.1

-- the greatest of all runs of `t` stages that end in state `q`, the start scoring `init`
abbrev pub Fore : ℕ → ℕ → (ℕ → ℕ → ℕ → ℤ) → (ℕ → ℕ → ℕ) → (ℕ → ℤ) → ℕ → ℕ → ℤ → Type 0
Fore size states edge next init t q f = IsGreatest (λ (r : ℕ × List ℕ). IsRun size states t r × (ends next r.0 r.1 ≡ q)) (λ r. init r.0 +ℤ walk edge next 0 r.0 r.1) f

-- before the first stage
none_yet : (size states : ℕ) (edge : ℕ → ℕ → ℕ → ℤ) (next : ℕ → ℕ → ℕ) (init : ℕ → ℤ) (q p : ℕ) (us : List ℕ) → IsPath size 0 us → ends next p us ≡ q → (init p +ℤ walk edge next 0 p us) ≤ℤ init q
none_yet size states edge next init q p [] h e = subst (λ (k : ℕ). (init p +ℤ pos 0) ≤ℤ init k) e (let z : (init p +ℤ pos 0) ≤ℤ init p = omega (arith, ints) in z)
none_yet size states edge next init q p (u ∷ us) h e = absurd h

-- before the first stage the forward row is what the states score by themselves
pub fore_first : (size states : ℕ) (edge : ℕ → ℕ → ℕ → ℤ) (next : ℕ → ℕ → ℕ) (init : ℕ → ℤ) (q : ℕ) → q < states → Fore size states edge next init 0 q (init q)
fore_first size states edge next init q low = record {
  reached = ((q, []), (((low, tt), refl), +ℤ_idr (init q)));
  bound = λ r h. none_yet size states edge next init q r.0 r.1 h.0.1 h.1;
}

-- a path after another
pub path-append : (size a b : ℕ) (us vs : List ℕ) → IsPath size a us → IsPath size b vs → IsPath size (a + b) (us ++ vs)
path-append size zero b [] vs h k = subst (λ (n : ℕ). IsPath size n vs) (sym (zero-add b)) k
path-append size zero b (u ∷ us) vs h k = absurd h
path-append size (suc a) b [] vs h k = absurd h
path-append size (suc a) b (u ∷ us) vs h k = subst (λ (n : ℕ). IsPath size n (u ∷ us ++ vs)) (sym (suc-add a b)) (h.0, path-append size a b us vs h.1 k)

-- bits are a path of as many inputs
pub bits_path : (bits : List ℕ) → AreBits bits → IsPath 2 (length bits) bits
bits_path [] h = tt
bits_path (b ∷ bits) h = (h 0 0 (omega arith), bits_path bits (are_bits-tail b bits h))

-- and a path is bits
pub path_bits : (n : ℕ) (bits : List ℕ) → IsPath 2 n bits → AreBits bits
path_bits n [] h = are_bits-none
path_bits zero (b ∷ bits) h = absurd h
path_bits (suc n) (b ∷ bits) h = are_bits-cons b bits h.0 (path_bits n bits h.1)

-- a path that takes one input again and again
pub replicate-path : (size k b : ℕ) → b < size → IsPath size k (replicate k b)
replicate-path size zero b h = tt
replicate-path size (suc k) b h = (h, replicate-path size k b h)

-- a path of n inputs has n
pub path-length : (size n : ℕ) (us : List ℕ) → IsPath size n us → length us ≡ n
path-length size zero [] h = refl
path-length size zero (u ∷ us) h = absurd h
path-length size (suc n) [] h = absurd h
path-length size (suc n) (u ∷ us) h = ap suc (path-length size n us h.1)

-- a path of no input is empty
path_none : (size : ℕ) (us : List ℕ) → IsPath size 0 us → us ≡ []
path_none size [] h = refl
path_none size (u ∷ us) h = absurd h

-- a path cut at a stage
pub record Cut (size a b : ℕ) (us : List ℕ) : Type 0 where
  pub front : List ℕ
  pub here : ℕ
  pub rest : List ℕ
  pub front_path : IsPath size a front
  pub here_low : here < size
  pub rest_path : IsPath size b rest
  pub whole : us ≡ front ++ here ∷ rest

-- each path has such parts
pub cut : (size a b : ℕ) (us : List ℕ) → IsPath size (a + suc b) us → Cut size a b us
cut size zero b [] h = absurd (subst (λ (n : ℕ). IsPath size n []) (zero-add (suc b)) h)
cut size zero b (u ∷ us) h =
    let k = subst (λ (n : ℕ). IsPath size n (u ∷ us)) (zero-add (suc b)) h in
    record { front = []; here = u; rest = us; front_path = tt; here_low = k.0; rest_path = k.1; whole = refl }
cut size (suc a) b [] h = absurd (subst (λ (n : ℕ). IsPath size n []) (suc-add a (suc b)) h)
cut size (suc a) b (u ∷ us) h =
    let k = subst (λ (n : ℕ). IsPath size n (u ∷ us)) (suc-add a (suc b)) h in
    let c = cut size a b us k.1 in
    record { front = u ∷ c.front; here = c.here; rest = c.rest; front_path = (k.0, c.front_path); here_low = c.here_low; rest_path = c.rest_path; whole = ap (λ (vs : List ℕ). u ∷ vs) c.whole }

-- the state before stage a, and the input there, where a path of a inputs is in front
pub state-append : (next : ℕ → ℕ → ℕ) (size a p : ℕ) (us vs : List ℕ) → IsPath size a us → state_at next p (us ++ vs) a ≡ ends next p us
state-append next size zero p [] vs h = refl
state-append next size zero p (u ∷ us) vs h = absurd h
state-append next size (suc a) p [] vs h = absurd h
state-append next size (suc a) p (u ∷ us) vs h = state-append next size a (next p u) us vs h.1

-- the input of that stage
pub input-append : (size a u : ℕ) (us vs : List ℕ) → IsPath size a us → get_or (us ++ u ∷ vs) a 0 ≡ u
input-append size zero u [] vs h = refl
input-append size zero u (w ∷ us) vs h = absurd h
input-append size (suc a) u [] vs h = absurd h
input-append size (suc a) u (w ∷ us) vs h = input-append size a u us vs h.1

-- what a path scores that goes through input `u` after `us`
pub walk-through : (edge : ℕ → ℕ → ℕ → ℤ) (next : ℕ → ℕ → ℕ) (size t p u : ℕ) (us vs : List ℕ) → IsPath size t us
    → walk edge next 0 p (us ++ u ∷ vs) ≡ walk edge next 0 p us +ℤ (edge t (ends next p us) u +ℤ walk edge next (t + 1) (next (ends next p us) u) vs)
walk-through edge next size t p u us vs h =
    walk-append edge next 0 p us (u ∷ vs)
    ∙ ap (λ (k : ℕ). walk edge next 0 p us +ℤ (edge k (ends next p us) u +ℤ walk edge next (k + 1) (next (ends next p us) u) vs)) (zero-add (length us) ∙ path-length size t us h)

-- the state after one input more
ends_one : (next : ℕ → ℕ → ℕ) (p u : ℕ) (us : List ℕ) → ends next p (us ++ u ∷ []) ≡ next (ends next p us) u
ends_one next p u us = ends-append next p us (u ∷ [])

-- the score of a run and of an edge behind it
in_front : (i w e f z : ℤ) → i +ℤ w ≡ f → f +ℤ e ≡ z → i +ℤ (w +ℤ (e +ℤ pos 0)) ≡ z
in_front i w e f z h k = omega (arith, ints)

-- the same with bounds
in_front_le : (i w e f z : ℤ) → (i +ℤ w) ≤ℤ f → (f +ℤ e) ≤ℤ z → (i +ℤ (w +ℤ (e +ℤ pos 0))) ≤ℤ z
in_front_le i w e f z h k = omega (arith, ints)

-- the score of a run, of an edge and of a path behind it
around : (i w e v f g b z : ℤ) → i +ℤ w ≡ g → v +ℤ f ≡ b → g +ℤ (e +ℤ b) ≡ z → (i +ℤ (w +ℤ (e +ℤ v))) +ℤ f ≡ z
around i w e v f g b z h k l = omega (arith, ints)

-- the same with bounds
around_le : (i w e v f g b z : ℤ) → (i +ℤ w) ≤ℤ g → (v +ℤ f) ≤ℤ b → (g +ℤ (e +ℤ b)) ≤ℤ z → ((i +ℤ (w +ℤ (e +ℤ v))) +ℤ f) ≤ℤ z
around_le i w e v f g b z h k l = omega (arith, ints)

module _ (size states : ℕ) (edge : ℕ → ℕ → ℕ → ℤ) (next : ℕ → ℕ → ℕ) (init : ℕ → ℤ)
    (stays : (p u : ℕ) → p < states → u < size → next p u < states) where
  -- the best edge into a state, behind the best run to where it leaves, is a run with that score
  fore_reached : (t q : ℕ) (f : ℤ) (row : ℕ → ℤ)
      → ((p : ℕ) → p < states → Fore size states edge next init t p (row p))
      → IsGreatest (λ (e : ℕ × ℕ). IsEdge size states e × (next e.0 e.1 ≡ q)) (λ e. row e.0 +ℤ edge t e.0 e.1) f
      → (r : ℕ × List ℕ) × ((IsRun size states (t + 1) r × (ends next r.0 r.1 ≡ q)) × (init r.0 +ℤ walk edge next 0 r.0 r.1 ≡ f))
  fore_reached t q f row so_far best =
      let e = best.reached.0 in
      let k = best.reached.1.0 in
      let w = so_far e.0 k.0.0 in
      let r = w.reached.0 in
      let path : IsPath size t r.1 = w.reached.1.0.0.1 in
      let end : ends next r.0 r.1 ≡ e.0 = w.reached.1.0.1 in (
        (r.0, r.1 ++ e.1 ∷ []),
        (
          ((w.reached.1.0.0.0, path-append size t 1 r.1 (e.1 ∷ []) path (k.0.1, tt)), ends_one next r.0 e.1 r.1 ∙ ap (λ (p : ℕ). next p e.1) end ∙ k.1),
          ap (λ (z : ℤ). init r.0 +ℤ z) (walk-through edge next size t r.0 e.1 r.1 [] path)
              ∙ ap (λ (p : ℕ). init r.0 +ℤ (walk edge next 0 r.0 r.1 +ℤ (edge t p e.1 +ℤ pos 0))) end
              ∙ in_front (init r.0) (walk edge next 0 r.0 r.1) (edge t e.0 e.1) (row e.0) f w.reached.1.1 best.reached.1.1,
        ),
      )

  -- and no run scores more
  fore_bound : (t q : ℕ) (f : ℤ) (row : ℕ → ℤ)
      → ((p : ℕ) → p < states → Fore size states edge next init t p (row p))
      → ((e : ℕ × ℕ) → IsEdge size states e × (next e.0 e.1 ≡ q) → (row e.0 +ℤ edge t e.0 e.1) ≤ℤ f)
      → (r : ℕ × List ℕ) → IsRun size states (t + 1) r × (ends next r.0 r.1 ≡ q) → (init r.0 +ℤ walk edge next 0 r.0 r.1) ≤ℤ f
  fore_bound t q f row so_far best r h =
      let c = cut size t 0 r.1 h.0.1 in
      let whole : r.1 ≡ c.front ++ c.here ∷ [] = c.whole ∙ ap (λ (vs : List ℕ). c.front ++ c.here ∷ vs) (path_none size c.rest c.rest_path) in
      let p : ℕ = ends next r.0 c.front in
      let low : p < states = ends-below size states t next stays r.0 c.front h.0.0 c.front_path in
      let goes : next p c.here ≡ q = sym (ends_one next r.0 c.here c.front) ∙ ap (λ (us : List ℕ). ends next r.0 us) (sym whole) ∙ h.1 in
      let one = (so_far p low).bound (r.0, c.front) ((h.0.0, c.front_path), refl) in
      let two = best (p, c.here) ((low, c.here_low), goes) in
      subst (λ (us : List ℕ). (init r.0 +ℤ walk edge next 0 r.0 us) ≤ℤ f) (sym whole)
      (subst (λ (z : ℤ). (init r.0 +ℤ z) ≤ℤ f) (sym (walk-through edge next size t r.0 c.here c.front [] c.front_path))
      (in_front_le (init r.0) (walk edge next 0 r.0 c.front) (edge t p c.here) (row p) f one two))

  -- one stage on
  pub fore_step : (t q : ℕ) (f : ℤ) (row : ℕ → ℤ)
      → ((p : ℕ) → p < states → Fore size states edge next init t p (row p))
      → IsGreatest (λ (e : ℕ × ℕ). IsEdge size states e × (next e.0 e.1 ≡ q)) (λ e. row e.0 +ℤ edge t e.0 e.1) f
      → Fore size states edge next init (t + 1) q f
  fore_step t q f row so_far best = record {
    reached = fore_reached t q f row so_far best;
    bound = fore_bound t q f row so_far best.bound;
  }

  module _ (fin : ℕ → ℤ) (class : ℕ → ℕ → Type 0) (t b : ℕ) (row back : ℕ → ℤ)
      (so_far : (p : ℕ) → p < states → Fore size states edge next init t p (row p))
      (later : (p : ℕ) → p < states → Back size edge next fin (t + 1) b p (back p)) where
    -- the best edge of the class, between the best run before it and the best path behind it, is a run with that score
    meet_reached : (z : ℤ)
        → IsGreatest (λ (e : ℕ × ℕ). IsEdge size states e × class e.0 e.1) (λ e. row e.0 +ℤ (edge t e.0 e.1 +ℤ back (next e.0 e.1))) z
        → (r : ℕ × List ℕ) × ((IsRun size states (t + suc b) r × class (state_at next r.0 r.1 t) (get_or r.1 t 0)) × ((init r.0 +ℤ walk edge next 0 r.0 r.1) +ℤ fin (ends next r.0 r.1) ≡ z))
    meet_reached z best =
        let e = best.reached.0 in
        let k = best.reached.1.0 in
        let w = so_far e.0 k.0.0 in
        let r = w.reached.0 in
        let path : IsPath size t r.1 = w.reached.1.0.0.1 in
        let end : ends next r.0 r.1 ≡ e.0 = w.reached.1.0.1 in
        let v = later (next e.0 e.1) (stays e.0 e.1 k.0.0 k.0.1) in
        let rest : List ℕ = v.reached.0 in (
          (r.0, r.1 ++ e.1 ∷ rest),
          (
            (
              (w.reached.1.0.0.0, path-append size t (suc b) r.1 (e.1 ∷ rest) path (k.0.1, v.reached.1.0)),
              subst (λ (p : ℕ). class p (get_or (r.1 ++ e.1 ∷ rest) t 0)) (sym (state-append next size t r.0 r.1 (e.1 ∷ rest) path ∙ end))
                  (subst (λ (u : ℕ). class e.0 u) (sym (input-append size t e.1 r.1 rest path)) k.1),
            ),
            ap (λ (y : ℤ). (init r.0 +ℤ y) +ℤ fin (ends next r.0 (r.1 ++ e.1 ∷ rest))) (walk-through edge next size t r.0 e.1 r.1 rest path)
                ∙ ap (λ (q : ℕ). (init r.0 +ℤ (walk edge next 0 r.0 r.1 +ℤ (edge t (ends next r.0 r.1) e.1 +ℤ walk edge next (t + 1) (next (ends next r.0 r.1) e.1) rest))) +ℤ fin q) (ends-append next r.0 r.1 (e.1 ∷ rest))
                ∙ ap (λ (p : ℕ). (init r.0 +ℤ (walk edge next 0 r.0 r.1 +ℤ (edge t p e.1 +ℤ walk edge next (t + 1) (next p e.1) rest))) +ℤ fin (ends next (next p e.1) rest)) end
                ∙ around (init r.0) (walk edge next 0 r.0 r.1) (edge t e.0 e.1) (walk edge next (t + 1) (next e.0 e.1) rest) (fin (ends next (next e.0 e.1) rest)) (row e.0) (back (next e.0 e.1)) z w.reached.1.1 v.reached.1.1 best.reached.1.1,
          ),
        )

    -- and no run through the class scores more
    meet_bound : (z : ℤ)
        → ((e : ℕ × ℕ) → IsEdge size states e × class e.0 e.1 → (row e.0 +ℤ (edge t e.0 e.1 +ℤ back (next e.0 e.1))) ≤ℤ z)
        → (r : ℕ × List ℕ) → IsRun size states (t + suc b) r × class (state_at next r.0 r.1 t) (get_or r.1 t 0) → ((init r.0 +ℤ walk edge next 0 r.0 r.1) +ℤ fin (ends next r.0 r.1)) ≤ℤ z
    meet_bound z best r h =
        let c = cut size t b r.1 h.0.1 in
        let p : ℕ = ends next r.0 c.front in
        let low : p < states = ends-below size states t next stays r.0 c.front h.0.0 c.front_path in
        let here_is : get_or r.1 t 0 ≡ c.here = ap (λ (us : List ℕ). get_or us t 0) c.whole ∙ input-append size t c.here c.front c.rest c.front_path in
        let at_is : state_at next r.0 r.1 t ≡ p = ap (λ (us : List ℕ). state_at next r.0 us t) c.whole ∙ state-append next size t r.0 c.front (c.here ∷ c.rest) c.front_path in
        let k : class p c.here = subst (λ (q : ℕ). class q c.here) at_is (subst (λ (u : ℕ). class (state_at next r.0 r.1 t) u) here_is h.1) in
        let one = (so_far p low).bound (r.0, c.front) ((h.0.0, c.front_path), refl) in
        let two = (later (next p c.here) (stays p c.here low c.here_low)).bound c.rest c.rest_path in
        let three = best (p, c.here) ((low, c.here_low), k) in
        subst (λ (us : List ℕ). ((init r.0 +ℤ walk edge next 0 r.0 us) +ℤ fin (ends next r.0 us)) ≤ℤ z) (sym c.whole)
        (subst (λ (q : ℕ). ((init r.0 +ℤ walk edge next 0 r.0 (c.front ++ c.here ∷ c.rest)) +ℤ fin q) ≤ℤ z) (sym (ends-append next r.0 c.front (c.here ∷ c.rest)))
        (subst (λ (y : ℤ). ((init r.0 +ℤ y) +ℤ fin (ends next (next p c.here) c.rest)) ≤ℤ z) (sym (walk-through edge next size t r.0 c.here c.front c.rest c.front_path))
        (around_le (init r.0) (walk edge next 0 r.0 c.front) (edge t p c.here) (walk edge next (t + 1) (next p c.here) c.rest) (fin (ends next (next p c.here) c.rest)) (row p) (back (next p c.here)) z one two three)))

    -- forward row, edge and backward row meet in the greatest of all runs whose stage `t` is in the class
    pub meet : (z : ℤ)
        → IsGreatest (λ (e : ℕ × ℕ). IsEdge size states e × class e.0 e.1) (λ e. row e.0 +ℤ (edge t e.0 e.1 +ℤ back (next e.0 e.1))) z
        → IsGreatest (λ (r : ℕ × List ℕ). IsRun size states (t + suc b) r × class (state_at next r.0 r.1 t) (get_or r.1 t 0)) (λ r. (init r.0 +ℤ walk edge next 0 r.0 r.1) +ℤ fin (ends next r.0 r.1)) z
    meet z best = record {
      reached = meet_reached z best;
      bound = meet_bound z best.bound;
    }
