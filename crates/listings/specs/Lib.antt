pub mod Adds
pub mod Calls
pub mod Text
