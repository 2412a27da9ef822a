-- What holds by the kind of a result.
use Rattle.std.proofs.Common.{Result, Ok, Err, OnErr}

-- what holds anyway holds where a result is an error
pub on_err_of : {T E P : Type 0} (r : Result T E) → P → OnErr r P
on_err_of (Ok x) h = tt
on_err_of (Err e) h = h
