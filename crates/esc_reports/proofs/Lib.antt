pub mod GapsFacts
pub mod Listed
pub mod Pieces
pub mod Reading
pub mod StatusLemmas
