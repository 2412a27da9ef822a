-- Octets that are told, after two calls in a row or after none.
use Rattle.std.proofs.Common.{◌≡◌, ◌++◌, ℕ, List, [], ap, sym, refl, append_assoc, append-nil, Some, None}
use Rattle.std.specs.declared.option.Option.{Option}
use Rattle.std.specs.Io.KnownBytes.{prepend_known, append_known}

-- two takes lose the octets of the first and then those of the second
pub prepend_twice : (xs ys : List ℕ) (known : Option (List ℕ))
    → prepend_known xs (prepend_known ys known) ≡ prepend_known (xs ++ ys) known
prepend_twice xs ys None = refl
prepend_twice xs ys (Some zs) = ap Some (sym (append_assoc xs ys zs))

-- two puts write the octets of the first and then those of the second
pub append_twice : (xs ys : List ℕ) (known : Option (List ℕ))
    → append_known (append_known known xs) ys ≡ append_known known (xs ++ ys)
append_twice xs ys None = refl
append_twice xs ys (Some zs) = ap Some (append_assoc zs xs ys)

-- no octet was written
pub append_nothing : (known : Option (List ℕ)) → append_known known [] ≡ known
append_nothing None = refl
append_nothing (Some zs) = ap Some (append-nil zs)

-- no octet was taken
pub prepend_nothing : (known : Option (List ℕ)) → prepend_known [] known ≡ known
prepend_nothing None = refl
prepend_nothing (Some zs) = refl
