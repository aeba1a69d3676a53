pub mod Chains
pub mod Counts
pub mod Few
pub mod Fronts
pub mod KeyLemmas
pub mod Listings
pub mod Mentions
pub mod Runs
