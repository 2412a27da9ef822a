pub mod Potentials
pub mod PathCheck
pub mod BestWord
pub mod PathMetrics
pub mod Record
pub mod Room
pub mod Laws
