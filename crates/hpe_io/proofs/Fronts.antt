-- Fronts of lists, and what a sink was given of them.
use Rattle.std.proofs.Common.{◌≡◌, ◌≤◌, ◌+◌, ◌++◌, ℕ, List, length, take, ap, sym, ◌∙◌, refl, arith, length-append}
use Rattle.std.proofs.lemmas.List.{take-take, take_at, take_all}
use Rattle.std.proofs.Math.Seq.{take-append-add}
use Rattle.std.specs.declared.option.Option.{Option}
use Rattle.std.specs.Io.KnownBytes.{append_known}
use Rattle.hpe_io.specs.Devices.{GrowsByFront, Grows}
use Rattle.hpe_io.proofs.Known.{append_twice, append_nothing}

-- ---- fronts

-- xs stands at the front of ys
pub record IsFront (xs ys : List ℕ) : Type 0 where
  pub fits : length xs ≤ length ys
  pub front : xs ≡ take (length xs) ys

-- a list stands at the front of what it begins
pub front-append : (xs ys : List ℕ) → IsFront xs (xs ++ ys)
front-append xs ys = record { fits = omega (arith, length-append xs ys); front = sym (take_at xs ys (length xs) refl) }

-- the same, where an equation says so
pub front_from : (xs ys zs : List ℕ) → zs ≡ xs ++ ys → IsFront xs zs
front_from xs ys zs e = rw e (front-append xs ys)

-- a front of a front
pub front-front : (xs ys zs : List ℕ) → IsFront xs ys → IsFront ys zs → IsFront xs zs
front-front xs ys zs a b =
    let i : length xs ≤ length ys = a.fits in
    let j : length ys ≤ length zs = b.fits in
    record {
      fits = omega arith;
      front = a.front ∙ ap (take (length xs)) b.front ∙ take-take (length xs) (length ys) zs a.fits;
    }

-- ---- sinks that grew

-- what grew by a front of xs grew by a front of a longer list
pub grows-front : (old new : Option (List ℕ)) (xs ys : List ℕ) → IsFront xs ys → GrowsByFront old new xs → GrowsByFront old new ys
grows-front old new xs ys f g =
    let i : length xs ≤ length ys = f.fits in
    let n : g.0 ≤ length xs = g.1 in
    (g.0, omega arith, g.2 ∙ ap (λ (l : List ℕ). append_known old l) (ap (take g.0) f.front ∙ take-take g.0 (length xs) ys g.1))

-- a front is some octets
pub grows_some : (old new : Option (List ℕ)) (xs : List ℕ) → GrowsByFront old new xs → Grows old new
grows_some old new xs g = record { octets = take g.0 xs; grown = g.2 }

-- nothing is a front
pub front_none : (old : Option (List ℕ)) (xs : List ℕ) → GrowsByFront old old xs
front_none old xs = (0, omega arith, sym (append_nothing old))

-- all octets are a front
pub front_of_all : (old new : Option (List ℕ)) (xs : List ℕ) → new ≡ append_known old xs → GrowsByFront old new xs
front_of_all old new xs e = (length xs, omega arith, e ∙ ap (append_known old) (sym (take_all (length xs) xs (omega arith))))

-- a front of what comes after some octets
pub front_after : (old mid new : Option (List ℕ)) (xs ys : List ℕ) → mid ≡ append_known old xs → GrowsByFront mid new ys → GrowsByFront old new (xs ++ ys)
front_after old mid new xs ys e g = (
  length xs + g.0,
  omega (arith, length-append xs ys, g.1),
  g.2 ∙ (ap (λ o. append_known o (take g.0 ys)) e ∙ (append_twice xs (take g.0 ys) old ∙ ap (append_known old) (sym (take-append-add xs ys g.0)))),
)

-- a front of octets with others behind
pub front_before : (old new : Option (List ℕ)) (xs ys : List ℕ) → GrowsByFront old new xs → GrowsByFront old new (xs ++ ys)
front_before old new xs ys g = grows-front old new xs (xs ++ ys) (front-append xs ys) g

-- all octets after some
pub all_after : (old mid new : Option (List ℕ)) (xs ys : List ℕ) → mid ≡ append_known old xs → new ≡ append_known mid ys → new ≡ append_known old (xs ++ ys)
all_after old mid new xs ys e w = w ∙ (ap (λ o. append_known o ys) e ∙ append_twice xs ys old)
