pub mod Division
pub mod Slicing
pub mod SlicerView
