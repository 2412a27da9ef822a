-- What a stream that took counts has put.
use Rattle.std.proofs.Common.{◌≡◌, ◌++◌, ℕ, List, take, ap, sym, subst, ◌∙◌}
use Rattle.std.specs.declared.option.Option.{Option}
use Rattle.std.specs.Io.KnownBytes.{append_known}
use Rattle.hpe_base.specs.Parameters.{Parameters}
use Rattle.hpe_base.specs.Rounds.{Verdict}
use Rattle.hpe_base.specs.Decoded.{word_lines}
use Rattle.hpe_recv.specs.Settled.{settled}
use Rattle.hpe_recv.specs.Delivering.{PutsPart}
use Rattle.hpe_recv.specs.Batching.{ready}
use Rattle.hpe_recv.specs.Streaming.{Streaming, HasTaken}
use Rattle.hpe_recv.proofs.Settling.{delivered_part}
use Rattle.hpe_recv.proofs.Batched.{lines_of_front}

-- a report grew by the lines of some first words of those that are settled
abbrev pub HasLines : Parameters → List ℕ → Option (List ℕ) → Option (List ℕ) → Type 0
HasLines p seen begin told = (n : ℕ) × (told ≡ append_known begin (word_lines 0 (take n (settled p seen))))

pub part-same : (p q : Parameters) (xs ys : List ℕ) (start now begin told : Option (List ℕ)) → q ≡ p → xs ≡ ys
    → PutsPart q (settled q xs) start now begin told → PutsPart p (settled p ys) start now begin told
part-same p q xs ys start now begin told same list h = rw (same, list) at h

pub lines-same : (p q : Parameters) (xs ys : List ℕ) (begin told : Option (List ℕ)) → q ≡ p → xs ≡ ys → HasLines q xs begin told → HasLines p ys begin told
lines-same p q xs ys begin told same list h = rw (same, list) at h

module _ (s : Streaming) (seen : List ℕ) (start now begin told : Option (List ℕ)) (p : Parameters) (same : s.rows.parameters ≡ p) (h : HasTaken s seen start now begin told) where
  -- what is put stands at the front of them
  all_are : settled p seen ≡ h.batched.put ++ ready s.batch
  all_are = sym (ap (λ q. settled q seen) same) ∙ h.batched.whole_are

  same_scan : s.batch.outlet.scan.parameters ≡ p
  same_scan = h.batched.outlet ∙ h.profile ∙ same

  -- where nothing failed, a front was put of what is settled
  pub taken_part : PutsPart p (settled p seen) start now begin told
  taken_part =
      subst (λ (q : Parameters). PutsPart q (settled p seen) start now begin told) same_scan
      (subst (λ (vs : List Verdict). PutsPart s.batch.outlet.scan.parameters vs start now begin told) (sym all_are)
      (delivered_part s.batch.outlet h.batched.put (ready s.batch) start now begin told h.batched.delivered))

  pub taken_lines : HasLines p seen begin told
  taken_lines = lines_of_front h.batched.put (ready s.batch) (settled p seen) begin told all_are h.batched.delivered.report_put
