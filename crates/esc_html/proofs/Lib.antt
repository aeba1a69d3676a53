pub mod Joining
pub mod ReadBack
