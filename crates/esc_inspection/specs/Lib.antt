pub mod AllClear
pub mod Answers
pub mod Compared
pub mod Contents
pub mod Inspected
pub mod Parts
