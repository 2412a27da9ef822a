pub mod Feeding
pub mod FeedView
pub mod Looking
pub mod Scanning
pub mod ScanView
pub mod Laws
