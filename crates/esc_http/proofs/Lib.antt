pub mod AnswerLemmas
pub mod CutLemmas
pub mod ExportLemmas
pub mod FaultLemmas
pub mod RouteLemmas
