pub mod Escape
pub mod Markup
pub mod Names
