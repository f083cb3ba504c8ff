pub mod Counts
pub mod File
pub mod Head
pub mod Answers
