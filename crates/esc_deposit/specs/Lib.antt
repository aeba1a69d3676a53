pub mod CutSoFar
pub mod Cuts
pub mod FullBundle
pub mod RegistrySeries
