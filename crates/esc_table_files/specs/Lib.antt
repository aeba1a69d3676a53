pub mod Apart
pub mod Gathering
pub mod Layouts
pub mod Writing
pub mod WritingFaults
