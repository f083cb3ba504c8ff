pub mod Epochs
pub mod History
