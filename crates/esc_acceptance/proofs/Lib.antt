pub mod Covered
pub mod Named
pub mod Places
