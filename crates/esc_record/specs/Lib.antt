pub mod Reading
pub mod Record
pub mod Writing
