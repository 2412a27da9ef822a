pub mod OuterTrellis
pub mod Laws
