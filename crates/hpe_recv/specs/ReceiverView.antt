-- How contracts see the fields of a receiver.
use Rattle.std.specs.Prelude.{ℕ, ◌+◌, ◌*◌, ◌≡◌, ◌≤◌, List, [], length, true, false}
use Rattle.std.specs.declared.option.Option.{Option}
use Rattle.hpe_base.specs.Parameters.{period_slots, codeword_symbols, positions}
use Rattle.hpe_find.specs.Finding.{finder_room}
use Rattle.hpe_weave.specs.Unweaving.{waiting_in}
use Rattle.hpe_recv.specs.Receiving.{Receiving}
use Rattle.hpe_recv.specs.Batching.{blocks_due}
use Rattle.hpe_recv.specs.Streaming.{HasTaken}
use Rattle.hpe_recv.specs.declared.receiver.Receiver.TheInside.{Inside}

abbrev pub receiving : Inside → Receiving
receiving r = record {
  parameters = r.reception.finder.parameters;
  workers = r.reception.stream.batch.crew.workers;
  fresh = r.fresh;
  counts = length r.reception.finder.counts;
  begun = length r.reception.stream.rows.begun;
  waiting = waiting_in r.reception.stream.rows.unweaver;
  sums = r.reception.stream.filled * positions r.reception.finder.parameters.order
      + length r.reception.stream.batch.crew.loads
      * (codeword_symbols r.reception.finder.parameters.order * positions r.reception.finder.parameters.order);
}

-- nothing has come
pub record IsNew (r : Inside) : Type 0 where
  pub counts : r.reception.finder.counts ≡ []
  pub stands : (frames report : Option (List ℕ)) → HasTaken r.reception.stream [] frames frames report report
  pub unspent : r.reception.stream.batch.outlet.scan.spent ≡ false
  pub blocks : blocks_due r.reception.stream.batch ≡ 0

-- the search keeps what it has room for, and until something has come the stream has taken nothing
pub record IsReceiving (r : Inside) : Type 0 where
  pub intake : r.reception.intake.parameters ≡ r.reception.finder.parameters
  pub stream : r.reception.stream.rows.parameters ≡ r.reception.finder.parameters
  pub within : length r.reception.finder.counts ≤ finder_room r.reception.finder.parameters
  pub period : r.reception.period ≡ period_slots r.reception.finder.parameters
  pub new : r.fresh ≡ true → IsNew r
