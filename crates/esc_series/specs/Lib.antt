pub mod Applied
pub mod Series
