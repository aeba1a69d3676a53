pub mod Body
pub mod BodyLength
pub mod Head
pub mod PieceLaws
pub mod Pieces
pub mod Response
pub mod Seen
pub mod Sent
