pub mod Turns
pub mod Weaving
pub mod WeaverView
pub mod Unweaving
pub mod UnweaverView
pub mod Laws
