use Rattle.std.proofs.Common.{arith, ◌≡◌, ◌≤◌, ◌-◌, ◌/◌, ◌++◌, min, ℕ, length, take, Some, ap}
use Rattle.std.proofs.lemmas.Grind.{common_steps}
use Rattle.hpe_io.proofs.mem_sink.MemSinkSink.put.Goals as goal

pub returns-then-contains-clause-bytes : goal.returns-then-contains-clause-bytes
returns-then-contains-clause-bytes c =
    let n : ℕ = min (c.args.self.now.room - length c.args.self.now.bytes) (length c.args.piece.now / 2) in
    let bound : n ≤ length c.args.piece.now = omega arith in
    let front : c.self-then-contains.inside.bytes.items ≡ c.args.self.now.bytes ++ take n c.args.piece.now = grind (arith, common_steps) in
    (n, bound, ap Some front)

pub returns-else-fill-clause-bytes : goal.returns-else-fill-clause-bytes
returns-else-fill-clause-bytes c =
    let n : ℕ = min (c.args.self.now.room - length c.args.self.now.bytes) (length c.args.piece.now) in
    let bound : n ≤ length c.args.piece.now = omega arith in
    let front : c.self-2.inside.bytes.items ≡ c.args.self.now.bytes ++ take n c.args.piece.now = grind (arith, common_steps) in
    (n, bound, ap Some front)
