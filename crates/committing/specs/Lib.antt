pub mod Ranges
pub mod Commit
pub mod Committing
pub mod Bare
pub mod Seek
