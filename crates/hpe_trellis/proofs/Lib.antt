pub mod KeptBits
pub mod Bounds
pub mod Runs
pub mod StepOutputs
pub mod Recursion
pub mod ScoreBounds
