pub mod Meaning
pub mod Merged
pub mod Merging
