pub mod Objects
pub mod Pieces
pub mod Pushed
pub mod Readings
pub mod Small
