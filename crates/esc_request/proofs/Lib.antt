pub mod BodyLemmas
pub mod HeadLemmas
pub mod LengthLemmas
pub mod ResponseLemmas
