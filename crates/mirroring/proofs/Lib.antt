pub mod Copies
pub mod Enrolling
mod Flags
mod Summing
mod Sourcing
pub mod Assessing
