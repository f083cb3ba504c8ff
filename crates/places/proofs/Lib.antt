pub mod Slots
pub mod Sets
pub mod Loops
pub mod Std
