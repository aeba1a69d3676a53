pub mod Connections
pub mod TimeBudget
pub mod TimedStream
