-- What the stages of the sender keep, and after which bits and octets.
use Rattle.std.specs.Prelude.{ℕ, List}
use Rattle.std.specs.declared.option.Option.{Option}
use Rattle.hpe_base.specs.Frames.{bit_stream}
use Rattle.hpe_block.specs.Slicing.{Slicing, HasSliced}
use Rattle.hpe_frame.specs.Feeding.{Feeding, HasFed}
use Rattle.hpe_send.specs.Coding.{Coding, HasCoded}
use Rattle.hpe_send.specs.Streaming.{word_count, words_of}

-- the stages of the sender: frames, blocks, and periods of slots
pub record Chaining : Type 0 where
  pub feed : Feeding
  pub slicer : Slicing
  pub coder : Coding

-- these bits went in, and since the output stood at start the slots of their whole blocks are written or held
pub record HasPushed (c : Chaining) (bits : List ℕ) (start now : Option (List ℕ)) : Type 0 where
  pub sliced : HasSliced c.slicer bits
  pub coded : HasCoded c.coder (word_count c.coder.parameters bits) (words_of c.coder.parameters bits) start now

-- these octets went in, and of their whole frames the bits
pub record HasTaken (c : Chaining) (octets : List ℕ) (start now : Option (List ℕ)) : Type 0 where
  pub fed : HasFed c.feed octets
  pub pushed : HasPushed c (bit_stream c.coder.parameters octets) start now
