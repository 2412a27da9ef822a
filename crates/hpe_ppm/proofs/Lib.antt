mod RunningSums
pub mod Mapping
pub mod Differences
pub mod InnerCode
