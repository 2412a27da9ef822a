-- The words of a generator as they are taken.
use Rattle.std.proofs.Common.{◌≡◌, ◌≤◌, ◌<◌, ◌+◌, ◌-◌, ◌∙◌, ◌++◌, ◌∷◌, [], ℕ, suc, List, length, drop, map, refl, arith, ap, ap₂, sym, append_assoc, append-nil, ◌%◌, ◌*◌, zero, get_or}
use Rattle.std.proofs.lemmas.List.{drop_more}
use Rattle.rand_core.specs.Steps.{first_words}
use Rattle.rand_pcg.specs.Lcg.{Lcg}
use Rattle.rand_pcg.specs.Pcg.{pcg32}
use Rattle.hpe_base.specs.Parameters.{Parameters}
use Rattle.hpe_sim.specs.declared.task.Task.{Task}
use Rattle.hpe_sim.specs.Simulated.{words_of, generator, sim_octets}

-- the first of some words
words-suc : (n : ℕ) (g : Lcg) → first_words pcg32 (suc n) g ≡ (pcg32 g).0 ∷ first_words pcg32 n (pcg32 g).1
unfolding first_words
words-suc n g = refl

-- no word
words-none : (g : Lcg) → first_words pcg32 0 g ≡ []
unfolding first_words
words-none g = refl

-- n words less k, of which one is taken
less_one : (n k : ℕ) → k < n → n - k ≡ suc (n - (k + 1))
less_one n k b = omega arith

word_taken : (n k : ℕ) (g h : Lcg) (r : ℕ) → k < n → (r, h) ≡ pcg32 g → first_words pcg32 (n - k) g ≡ r ∷ first_words pcg32 (n - (k + 1)) h
word_taken n k g h r b e =
    ap (λ m. first_words pcg32 m g) (less_one n k b) ∙ words-suc (n - (k + 1)) g
    ∙ ap (λ (x : ℕ × Lcg). x.0 ∷ first_words pcg32 (n - (k + 1)) x.1) (sym e)

-- what was made of the words that were taken, and is to be made of the others
pub mapped_more : (f : ℕ → ℕ) (xs all : List ℕ) (n k : ℕ) (g h : Lcg) (r : ℕ) → k < n → (r, h) ≡ pcg32 g → xs ++ map f (first_words pcg32 (n - k) g) ≡ all
    → (xs ++ f r ∷ []) ++ map f (first_words pcg32 (n - (k + 1)) h) ≡ all
mapped_more f xs all n k g h r b e was =
    append_assoc xs (f r ∷ []) (map f (first_words pcg32 (n - (k + 1)) h))
    ∙ ap (λ (ws : List ℕ). xs ++ map f ws) (sym (word_taken n k g h r b e)) ∙ was

-- once all are taken
pub mapped_all : (f : ℕ → ℕ) (xs all : List ℕ) (n k : ℕ) (g : Lcg) → n ≤ k → xs ++ map f (first_words pcg32 (n - k) g) ≡ all → xs ≡ all
mapped_all f xs all n k g b was =
    let none : n - k ≡ 0 = omega arith in
    sym (append-nil xs) ∙ ap (λ (ws : List ℕ). xs ++ map f ws) (sym (ap (λ m. first_words pcg32 m g) none ∙ words-none g)) ∙ was

-- before the first word is taken
pub mapped_none : (f : ℕ → ℕ) (xs : List ℕ) (n m : ℕ) (g h : Lcg) → xs ≡ [] → n ≡ m → g ≡ h → xs ++ map f (first_words pcg32 (n - 0) g) ≡ map f (first_words pcg32 m h)
mapped_none f xs n m g h none e same =
    let n_is : n - 0 ≡ m = omega arith in
    ap (λ (l : List ℕ). l ++ map f (first_words pcg32 (n - 0) g)) none ∙ ap₂ (λ (k : ℕ) (x : Lcg). map f (first_words pcg32 k x)) n_is same

-- the octets of the frames are made of the words
pub octets_are : (p : Parameters) (task : Task) → map (λ r. r % 256) (words_of (generator task.seed 1) (task.frames * p.frame_octets)) ≡ sim_octets p task
unfolding sim_octets
octets_are p task = refl

-- as many words as are asked for
pub length-words : (n : ℕ) (g : Lcg) → length (first_words pcg32 n g) ≡ n
length-words zero g = ap (λ (l : List ℕ). length l) (words-none g)
length-words (suc n) g = ap (λ (l : List ℕ). length l) (words-suc n g) ∙ ap suc (length-words n (pcg32 g).1)

-- the word that is taken is the next of all, and those behind it are left
pub word_next : (n i : ℕ) (g h : Lcg) (r : ℕ) (ws : List ℕ) → i < n → i < length ws → (r, h) ≡ pcg32 g → first_words pcg32 (n - i) g ≡ drop i ws
    → (get_or ws i 0 ≡ r) × (first_words pcg32 (n - (i + 1)) h ≡ drop (i + 1) ws)
word_next n i g h r ws b long e was =
    let here : get_or ws i 0 ∷ drop (i + 1) ws ≡ r ∷ first_words pcg32 (n - (i + 1)) h = sym (drop_more ws i 0 long) ∙ sym was ∙ word_taken n i g h r b e in
    (cc, cc)
