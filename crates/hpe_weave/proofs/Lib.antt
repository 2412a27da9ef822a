pub mod Channels
pub mod TurnLemmas
pub mod WeaverLemmas
pub mod UnweaverLemmas
pub mod Undone
pub mod HeldLemmas
