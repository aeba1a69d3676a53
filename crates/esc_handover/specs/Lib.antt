pub mod PageParts
pub mod Picture
pub mod Restored
pub mod Titles
pub mod WorkedSeries
