pub mod Counted
pub mod Cutting
pub mod SeriesOfRuns
pub mod Written
