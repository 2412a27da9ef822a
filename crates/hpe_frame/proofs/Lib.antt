pub mod FrameBits
pub mod SpanBits
pub mod Running
pub mod Standing
pub mod Gaps
pub mod GivenBlocks
