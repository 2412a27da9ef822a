pub mod Clamping
pub mod Halves
pub mod FirstRight
pub mod Stages
pub mod Signs
pub mod InnerLead
pub mod OuterLead
pub mod Sent
