pub mod Finding
pub mod FinderView
pub mod Found
pub mod Leading
pub mod Sending
