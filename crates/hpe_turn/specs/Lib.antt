pub mod Room
pub mod FirstRight
pub mod Dominance
pub mod Stages
pub mod InverseTable
