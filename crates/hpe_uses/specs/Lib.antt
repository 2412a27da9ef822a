pub mod Causes
pub mod Profiles
