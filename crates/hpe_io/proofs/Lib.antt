pub mod Fronts
pub mod FullSinks
pub mod Known
pub mod Marks
mod Passing
pub mod Results
pub mod Taking
