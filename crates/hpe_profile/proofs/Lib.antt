pub mod Tables
pub mod ProfileAlike
