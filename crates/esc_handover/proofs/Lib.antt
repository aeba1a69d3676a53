pub mod Arrivals
pub mod AxisOrder
pub mod InTurn
pub mod Restoring
pub mod SeriesRestoring
pub mod Titled
pub mod Within
