pub mod Answering
pub mod Exports
pub mod RequestPlans
pub mod Response
pub mod Route
pub mod Router
