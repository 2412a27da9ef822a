pub mod Collected
pub mod Settling
pub mod Fronts
pub mod Delivered
pub mod Groups
pub mod WordRows
pub mod TakenParts
pub mod Counting
pub mod Taking
pub mod Decoding
pub mod Received
pub mod Offsets
pub mod Outcomes
pub mod Streamed
mod Batched
pub mod Caused
pub mod Read
