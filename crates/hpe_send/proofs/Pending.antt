-- Octets on their way to a sink.
use Rattle.std.proofs.Common.{◌≡◌, ◌≤◌, ◌+◌, ◌++◌, ◌<◌, ℕ, List, [], ◌∷◌, length, take, get_or, Result, Ok, Err, OnOk, OnErr, drop, ap, sym, ◌∙◌, arith, append_assoc, append-nil, length-append}
use Rattle.std.specs.List.{flat_map}
use Rattle.std.proofs.lemmas.List.{take-append-le, take_more, take_all, take-append-drop}
use Rattle.std.proofs.Math.Seq.{take-append-add}
use Rattle.std.proofs.lemmas.Grind.{flat_map-append}
use Rattle.std.specs.declared.option.Option.{Option}
use Rattle.std.specs.Io.KnownBytes.{append_known}
use Rattle.hpe_io.specs.Devices.{GrowsByFront, Puts}
use Rattle.hpe_io.proofs.Known.{append_twice, append_nothing}
use Rattle.hpe_send.specs.Outgoing.{IsPending}
use Rattle.hpe_io.proofs.Fronts.{IsFront, front_from}

-- a put of what is held that is cut off
pub pending_cut : (start old new : Option (List ℕ)) (held all piece : List ℕ) → IsPending start old held all → GrowsByFront old new held →
    GrowsByFront start new (all ++ piece)
pending_cut start old new held all piece h g =
    let sent = h.0 in
    let k = g.0 in
    let n : k ≤ length held = g.1 in
    let list : all ++ piece ≡ sent ++ (held ++ piece) = ap (λ (l : List ℕ). l ++ piece) h.2 ∙ append_assoc sent held piece in
    let long : length (all ++ piece) ≡ length sent + length (held ++ piece) = ap (λ (l : List ℕ). length l) list ∙ length-append sent (held ++ piece) in
    let front : take (length sent + k) (all ++ piece) ≡ sent ++ take k held =
    ap (take (length sent + k)) list ∙ take-append-add sent (held ++ piece) k ∙ ap (λ (l : List ℕ). sent ++ l) (take-append-le k held piece n) in (
      length sent + k,
      omega (arith, length-append held piece),
      g.2 ∙ ap (λ (o : Option (List ℕ)). append_known o (take k held)) h.1 ∙ append_twice sent (take k held) start ∙ ap (append_known start) (sym front),
    )

-- nothing is held at the start
pub pending_none : (start : Option (List ℕ)) (held : List ℕ) → held ≡ [] → IsPending start start held []
pending_none start held h = ([], sym (append_nothing start), sym h)

-- the pieces of one value more
pub pieces_more : (f : ℕ → List ℕ) (all xs : List ℕ) (i : ℕ) → i < length xs →
    (all ++ flat_map f (take i xs)) ++ f (get_or xs i 0) ≡ all ++ flat_map f (take (i + 1) xs)
pieces_more f all xs i h =
    append_assoc all (flat_map f (take i xs)) (f (get_or xs i 0))
    ∙ ap (λ ys. all ++ ys) (sym (ap (flat_map f) (take_more xs i 0 h) ∙ (flat_map-append f (take i xs) (get_or xs i 0 ∷ []) ∙ ap (λ ys. flat_map f (take i xs) ++ ys) (append-nil (f (get_or xs i 0))))))

pub pieces_all : (f : ℕ → List ℕ) (all xs : List ℕ) (i : ℕ) → length xs ≤ i → all ++ flat_map f (take i xs) ≡ all ++ flat_map f xs
pieces_all f all xs i h = ap (λ ys. all ++ flat_map f ys) (take_all i xs h)

pub pieces_twice : (f : ℕ → List ℕ) (all xs xs' ys : List ℕ) → xs ≡ xs' → (all ++ flat_map f xs) ++ flat_map f ys ≡ all ++ flat_map f (xs' ++ ys)
pieces_twice f all xs xs' ys e =
    append_assoc all (flat_map f xs) (flat_map f ys)
    ∙ (ap (λ zs. all ++ (flat_map f zs ++ flat_map f ys)) e ∙ ap (λ zs. all ++ zs) (sym (flat_map-append f xs' ys)))

pub pending_same : (start now : Option (List ℕ)) (held all all' : List ℕ) → all ≡ all' → IsPending start now held all → IsPending start now held all'
pending_same start now held all all' e h = (h.0, h.1, sym e ∙ h.2)

pub pending_ok : {T E : Type 0} (result : Result T E) (start now : Option (List ℕ)) (held all all' : List ℕ) → all ≡ all' →
    OnOk result (IsPending start now held all) → OnOk result (IsPending start now held all')
pending_ok (Ok v) start now held all all' e h = pending_same start now held all all' e h
pending_ok (Err v) start now held all all' e h = h

-- once all that was held is put
pub pending_flushed : (start now new : Option (List ℕ)) (held all : List ℕ) → IsPending start now held all → new ≡ append_known now held →
    new ≡ append_known start all
pending_flushed start now new held all h e =
    e ∙ (ap (λ k. append_known k held) h.1 ∙ (append_twice h.0 held start ∙ ap (append_known start) (sym h.2)))

-- what is due up to and with one value's pieces stands at the front of what is due for all
pub pieces-front : (f : ℕ → List ℕ) (all xs : List ℕ) (i : ℕ) → i < length xs →
    IsFront ((all ++ flat_map f (take i xs)) ++ f (get_or xs i 0)) (all ++ flat_map f xs)
pieces-front f all xs i h =
    let split : flat_map f xs ≡ flat_map f (take (i + 1) xs) ++ flat_map f (drop (i + 1) xs) =
    ap (flat_map f) (sym (take-append-drop (i + 1) xs)) ∙ flat_map-append f (take (i + 1) xs) (drop (i + 1) xs) in
    front_from ((all ++ flat_map f (take i xs)) ++ f (get_or xs i 0)) (flat_map f (drop (i + 1) xs)) (all ++ flat_map f xs)
    (ap (λ ys. all ++ ys) split ∙ (sym (append_assoc all (flat_map f (take (i + 1) xs)) (flat_map f (drop (i + 1) xs)))
    ∙ ap (λ ys. ys ++ flat_map f (drop (i + 1) xs)) (sym (pieces_more f all xs i h))))

pub grows_same : (start new : Option (List ℕ)) (all all' : List ℕ) → all ≡ all' → GrowsByFront start new all → GrowsByFront start new all'
grows_same start new all all' e g = rw e at g

pub grows_err : {T E : Type 0} (result : Result T E) (start new : Option (List ℕ)) (all all' : List ℕ) → all ≡ all' →
    OnErr result (GrowsByFront start new all) → OnErr result (GrowsByFront start new all')
grows_err (Ok v) start new all all' e h = h
grows_err (Err v) start new all all' e h = grows_same start new all all' e h

-- the pieces of the first values stand at the front of those of all
pub front_twice : (f : ℕ → List ℕ) (all xs xs' ys : List ℕ) → xs ≡ xs' → IsFront (all ++ flat_map f xs) (all ++ flat_map f (xs' ++ ys))
front_twice f all xs xs' ys e = front_from (all ++ flat_map f xs) (flat_map f ys) (all ++ flat_map f (xs' ++ ys)) (sym (pieces_twice f all xs xs' ys e))

-- all that was due is written once what is held is put
pub put_ok : {T E : Type 0} (result : Result T E) (start now new : Option (List ℕ)) (held all all' : List ℕ) → all ≡ all' → IsPending start now held all
    → Puts now new result held → OnOk result (new ≡ append_known start all')
put_ok (Ok v) start now new held all all' e h put = pending_flushed start now new held all h put ∙ ap (append_known start) e
put_ok (Err v) start now new held all all' e h put = tt

-- what is put of what is held, where that is cut off
pub put_err : {T E : Type 0} (result : Result T E) (start now new : Option (List ℕ)) (held all all' : List ℕ) → all ≡ all' → IsPending start now held all
    → Puts now new result held → OnErr result (GrowsByFront start new all')
put_err (Ok v) start now new held all all' e h put = tt
put_err (Err v) start now new held all all' e h put = grows_same start new (all ++ []) all' (append-nil all ∙ e) (pending_cut start now new held all [] h put)
