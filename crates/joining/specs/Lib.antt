pub mod Joiner
pub mod Merge
