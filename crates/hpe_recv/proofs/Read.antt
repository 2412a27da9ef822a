-- How far the input has come behind the counts that are kept.
use Rattle.std.proofs.Common.{◌≤◌, ◌+◌, ◌++◌, ℕ, List, [], length, refl, subst, sym, arith, append-nil}
use Rattle.std.specs.declared.option.Option.{Option}
use Rattle.std.specs.Io.KnownBytes.{IsAtEnd}
use Rattle.hpe_base.specs.Parameters.{Parameters}
use Rattle.hpe_find.specs.Finding.{finder_room}
use Rattle.hpe_recv.specs.Counting.{CountIntakeState, HasCounted, HasCountedPart}
use Rattle.hpe_recv.specs.Reading.{HasBroken, HasEnded}
use Rattle.hpe_recv.proofs.Counting.{counted_within}

module _ (p : Parameters) (kept : List ℕ) (i : CountIntakeState) (start now : Option (List ℕ)) where
  -- nothing came
  pub ended_none : HasCounted i start now kept → i.octets.taken ≤ i.octets.limit → IsAtEnd now → HasEnded p kept [] i start now
  ended_none come fits ended = record { unless = λ _. refl; come = subst (HasCounted i start now) (sym (append-nil kept)) come; ended = ended; within = fits }

  -- nothing is to come
  pub broken_none : HasCounted i start now kept → i.octets.taken ≤ i.octets.limit → HasBroken p kept [] i start now
  broken_none come fits = record {
    unless = λ _. refl;
    stopped = counted_within i start now (kept ++ []) (subst (HasCounted i start now) (sym (append-nil kept)) come) fits;
    most = omega arith;
  }

  -- the search was settled, and these came to the end
  pub ended_all : (rest : List ℕ) → finder_room p ≤ length kept → HasCounted i start now (kept ++ rest) → i.octets.taken ≤ i.octets.limit → IsAtEnd now → HasEnded p kept rest i start now
  ended_all rest full come fits ended = record { unless = λ less. absurd (omega arith); come = come; ended = ended; within = fits }

  -- the search was settled, and these came
  pub broken_all : (rest : List ℕ) → finder_room p ≤ length kept → HasCountedPart i start now (kept ++ rest) → i.octets.taken ≤ i.octets.limit + 1 → HasBroken p kept rest i start now
  broken_all rest full stopped most = record { unless = λ less. absurd (omega arith); stopped = stopped; most = most }

  -- all came, and then something failed
  pub broken_ended : (rest : List ℕ) → HasEnded p kept rest i start now → HasBroken p kept rest i start now
  broken_ended rest h = let fits : i.octets.taken ≤ i.octets.limit = h.within in record { unless = h.unless; stopped = counted_within i start now (kept ++ rest) h.come h.within; most = omega arith }
