pub mod Acceptance
pub mod Chains
pub mod Guides
pub mod Lines
pub mod Listed
pub mod Surveyed
pub mod Tlds
