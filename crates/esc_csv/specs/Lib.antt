pub mod Between
pub mod Lines
pub mod Records
