pub mod Founds
pub mod Readings
pub mod Untouched
