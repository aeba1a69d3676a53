pub mod Domains
pub mod Examining
pub mod Numbers
pub mod Sets
pub mod Sharing
pub mod Surveyed
pub mod Tests
pub mod Versions
