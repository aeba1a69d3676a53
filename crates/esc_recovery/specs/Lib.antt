pub mod Blank
pub mod FileImages
pub mod Opened
pub mod PathFaults
pub mod ReadImages
pub mod Rest
