-- What the coder of the sender keeps, and after which codewords.
use Rattle.std.specs.Prelude.{ℕ, ◌≡◌, ◌*◌, List, length}
use Rattle.std.specs.declared.option.Option.{Option}
use Rattle.hpe_base.specs.Parameters.{Parameters, IsValid, codeword_symbols}
use Rattle.hpe_base.specs.Slots.{octets_to}
use Rattle.hpe_weave.specs.Weaving.{Weaving, HasWoven}
use Rattle.hpe_send.specs.Outgoing.{IsPending}

-- a coder: the channel interleaver, the room for a codeword, and the slots that wait for the output
pub record Coding : Type 0 where
  pub parameters : Parameters
  pub weaver : Weaving
  pub word : List ℕ
  pub held : List ℕ

-- the symbols of n codewords went in, and since the output stood at start the slots of their periods are written or held
pub record HasCoded (c : Coding) (n : ℕ) (symbols : List ℕ) (start now : Option (List ℕ)) : Type 0 where
  pub valid : IsValid c.parameters
  pub size : length symbols ≡ n * codeword_symbols c.parameters.order
  pub woven : HasWoven c.weaver symbols
  pub pending : IsPending start now c.held (octets_to c.parameters n symbols)
