-- What a decoding makes of the slots of whole frames that come as they were sent.
use Rattle.std.proofs.Common.{◌≡◌, ◌∙◌, ◌%◌, ◌<◌, ◌++◌, ℕ, List, length, append-nil, Some, None, sym, ap, All}
use Rattle.std.specs.declared.option.Option.{Option}
use Rattle.std.specs.Io.KnownBytes.{append_known, prepend_known, IsAtEnd}
use Rattle.hpe_base.specs.Parameters.{Parameters, IsValid, period_slots}
use Rattle.hpe_base.specs.MarkerSearch.{offset_of}
use Rattle.hpe_base.specs.Decoded.{decoded}
use Rattle.hpe_clear.specs.Laws.{clear_octets, clear_counts}
use Rattle.hpe_clear.proofs.ClearDecoded.{clear_decoded}
use Rattle.hpe_recv.specs.Receiving.{Receives}
use Rattle.hpe_cmd.specs.declared.ending.Status.{Status}
use Rattle.hpe_cmd.specs.declared.ending.Status.TheVariants.{Done}
use Rattle.hpe_cmd.specs.DecodeRun.{decode_status, status_at}
use Rattle.hpe_cmd.proofs.DecodeStatus.{status_lit}

-- octets that are all that was left are those that were taken to the end
pub taken_all : (known taken : List ℕ) (left : Option (List ℕ)) → Some known ≡ prepend_known taken left → IsAtEnd left
    → taken ≡ known
taken_all known taken None lost end = cc
taken_all known taken (Some rest) lost end =
    let same : known ≡ taken ++ rest = cc in
    sym (same ∙ ap (λ l. taken ++ l) end ∙ append-nil taken)

-- the status and the frames
pub clear_run : (p : Parameters) (limit : ℕ) (known left written written' report report' : Option (List ℕ))
    (counts octets : List ℕ) (d : ℕ) (s : Status) → IsValid p
    → All (λ octet. octet < 256) octets → length octets % p.frame_octets ≡ 0 → d < period_slots p
    → known ≡ Some (clear_octets p octets d)
    → Receives p limit known left written written' report report' counts → s ≡ decode_status p counts
    → (s ≡ Done) × (written' ≡ append_known written octets)
clear_run p limit known left written written' report report' counts octets d s v small whole short told r is =
    let law = clear_decoded p octets d v small whole short in
    let same : counts ≡ clear_octets p octets d =
    taken_all (clear_octets p octets d) counts left (sym told ∙ r.reads.lost) r.reads.ended in (
      is ∙ ap (decode_status p) same
          ∙ ap (λ t. status_at (offset_of p (clear_counts p octets d)) t.lost) law.tally
          ∙ status_lit (offset_of p (clear_counts p octets d)) 0 law.lit,
      r.decodes ∙ ap (λ c. append_known written (decoded p c)) same ∙ ap (append_known written) law.frames,
    )
