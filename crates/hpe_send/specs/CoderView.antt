-- How contracts see the fields of a coder.
use Rattle.std.specs.Prelude.{◌≡◌, length}
use Rattle.hpe_base.specs.Parameters.{codeword_symbols}
use Rattle.hpe_send.specs.Coding.{Coding}
use Rattle.hpe_send.specs.Weave.{IsWithin}
use Rattle.hpe_send.specs.declared.coder.Coder.TheInside.{Inside}

abbrev pub coding : Inside → Coding
coding c = record { parameters = c.profile; weaver = c.weaver; word = c.word.items; held = c.outbox }

pub record IsCoding (c : Inside) : Type 0 where
  pub weaver : c.weaver.parameters ≡ c.profile
  pub within : IsWithin c.weaver
  pub word : length c.word.items ≡ codeword_symbols c.profile.order
