pub mod Automaton
pub mod FieldFacts
pub mod Lengths
pub mod ReadBack
pub mod RecordsLeft
