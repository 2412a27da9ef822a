pub mod MappedBits
pub mod Laws
