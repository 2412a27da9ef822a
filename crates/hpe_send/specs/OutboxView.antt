-- How contracts see the fields of an outbox.
use Rattle.std.specs.Prelude.{ℕ, ◌≡◌, ◌≤◌, List, take, length}
use Rattle.hpe_send.specs.declared.outbox.Outbox.TheInside.{Inside}

-- the octets that are held
abbrev pub held_octets : Inside → List ℕ
held_octets o = take o.used o.octets.items

pub record IsOutbox (o : Inside) : Type 0 where
  pub size : length o.octets.items ≡ 65536
  pub used : o.used ≤ 65536
