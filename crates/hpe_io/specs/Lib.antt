pub mod Devices
pub mod Intake
pub mod Memory
pub mod Standing
pub mod System
pub mod Shelves
