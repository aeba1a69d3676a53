pub mod Gathered
pub mod Members
pub mod Names
pub mod ReadBack
pub mod Refusals
pub mod RowFields
pub mod SectionFacts
