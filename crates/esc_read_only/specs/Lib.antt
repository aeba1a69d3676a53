pub mod Contents
pub mod Noted
pub mod Notes
pub mod Untouched
