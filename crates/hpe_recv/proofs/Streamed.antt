-- A stream as counts come in pieces of any length.
use Rattle.std.proofs.Common.{◌≡◌, refl, Result, Ok, Err, IsErrOf, ◌+◌, ◌≤◌, ◌++◌, ℕ, List, [], length, take, drop, ap, sym, subst, ◌∙◌, append-nil, append_assoc, take-add}
use Rattle.std.specs.declared.option.Option.{Option}
use Rattle.std.proofs.lemmas.List.{take_all, take-append-drop}
use Rattle.hpe_base.specs.Parameters.{Parameters, IsValid}
use Rattle.hpe_recv.specs.Settled.{settled}
use Rattle.hpe_recv.specs.Delivering.{PutsPart}
use Rattle.hpe_recv.specs.Streaming.{Streaming, HasTaken}
use Rattle.hpe_recv.proofs.Collected.{puts_same}
use Rattle.hpe_recv.proofs.Fronts.{settled-front}
use Rattle.hpe_recv.proofs.Settling.{puts_part_more}
use Rattle.hpe_recv.proofs.Batched.{some_lines_front}
use Rattle.hpe_recv.proofs.TakenParts.{HasLines, part-same, lines-same}
use Rattle.hpe_recv.proofs.Taking.{Follows}

-- what was put of the verdicts of some counts is part of what is due for more
pub puts_more : (p : Parameters) (seen more all : List ℕ) (f f' r r' : Option (List ℕ)) → IsValid p → all ≡ seen ++ more → PutsPart p (settled p seen) f f' r r' → PutsPart p (settled p all) f f' r r'
puts_more p seen more all f f' r r' v e h =
    let front = settled-front p seen more v in
    puts_same p p _ _ f f' r r' refl (sym (ap (settled p) e ∙ front.1)) (puts_part_more p (settled p seen) front.0 f f' r r' h)

-- first lines of the verdicts of some counts are first lines of those of more
pub lines_more : (p : Parameters) (seen more all : List ℕ) (begin told : Option (List ℕ)) → IsValid p → all ≡ seen ++ more → HasLines p seen begin told → HasLines p all begin told
lines_more p seen more all begin told v e some =
    let front = settled-front p seen more v in
    some_lines_front (settled p seen) front.0 (settled p all) begin told (ap (settled p) e ∙ front.1) some

-- the error of a result, or another one
error_or : {T E : Type 0} → E → Result T E → E
error_or d (Ok value) = d
error_or d (Err e) = e

-- an error is the same where there is a value of another type
pub err_same : {T U E : Type 0} (e x : E) → IsErrOf {T = T} (Err e) x → IsErrOf {T = U} (Err e) x
unfolding error_or
err_same e x h = ap (λ r. Err (error_or e r)) h

-- a piece, and what stands behind it
front_and_rest : (seen counts : List ℕ) (place : ℕ) → (seen ++ take place counts) ++ drop place counts ≡ seen ++ counts
front_and_rest seen counts place = append_assoc seen (take place counts) (drop place counts) ∙ ap (λ (x : List ℕ). seen ++ x) (take-append-drop place counts)

-- counts in two parts
pub parts : (seen counts : List ℕ) (n : ℕ) → seen ++ counts ≡ (seen ++ take n counts) ++ drop n counts
parts seen counts n = sym (front_and_rest seen counts n)

-- the stream follows a piece that begins where the last one ended
pub follows_step : (old s new : Streaming) (w w' w'' t t' t'' : Option (List ℕ)) (counts rest : List ℕ) (place n : ℕ) → rest ≡ drop place counts
    → Follows old s w w' t t' (take place counts)
    → ((seen : List ℕ) (start begin : Option (List ℕ)) → HasTaken s seen start w' begin t' → HasTaken new (seen ++ take n rest) start w'' begin t'')
    → Follows old new w w'' t t'' (take (place + n) counts)
follows_step old s new w w' w'' t t' t'' counts rest place n e before step = λ seen start begin h.
    subst (λ (x : List ℕ). HasTaken new x start w'' begin t'')
    (ap (λ (x : List ℕ). (seen ++ take place counts) ++ take n x) e ∙ append_assoc seen (take place counts) (take n (drop place counts)) ∙ ap (λ (x : List ℕ). seen ++ x) (sym (take-add place n counts)))
    (step (seen ++ take place counts) start begin (before seen start begin h))

pub follows_all : (old new : Streaming) (w w' t t' : Option (List ℕ)) (counts : List ℕ) (place : ℕ) → length counts ≤ place → Follows old new w w' t t' (take place counts) → Follows old new w w' t t' counts
follows_all old new w w' t t' counts place ends h = λ seen start begin stands.
    subst (λ (x : List ℕ). HasTaken new (seen ++ x) start w' begin t') (take_all place counts ends) (h seen start begin stands)

pub follows_start : (s : Streaming) (w t : Option (List ℕ)) → Follows s s w w t t []
follows_start s w t = λ seen start begin h. subst (λ (x : List ℕ). HasTaken s x start w begin t) (sym (append-nil seen)) h

-- what was put where a step failed
pub puts_rest : (p q : Parameters) (seen counts rest : List ℕ) (place : ℕ) (f f' r r' : Option (List ℕ)) → q ≡ p → rest ≡ drop place counts
    → PutsPart q (settled q ((seen ++ take place counts) ++ rest)) f f' r r' → PutsPart p (settled p (seen ++ counts)) f f' r r'
puts_rest p q seen counts rest place f f' r r' same e h =
    part-same p q ((seen ++ take place counts) ++ rest) (seen ++ counts) f f' r r' same (ap (λ (x : List ℕ). (seen ++ take place counts) ++ x) e ∙ front_and_rest seen counts place) h

pub lines_rest : (p q : Parameters) (seen counts rest : List ℕ) (place : ℕ) (begin told : Option (List ℕ)) → q ≡ p → rest ≡ drop place counts
    → HasLines q ((seen ++ take place counts) ++ rest) begin told → HasLines p (seen ++ counts) begin told
lines_rest p q seen counts rest place begin told same e h =
    lines-same p q ((seen ++ take place counts) ++ rest) (seen ++ counts) begin told same (ap (λ (x : List ℕ). (seen ++ take place counts) ++ x) e ∙ front_and_rest seen counts place) h
