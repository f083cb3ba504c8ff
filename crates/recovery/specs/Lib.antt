pub mod Calls
pub mod Counts
pub mod Record
pub mod Answers
pub mod LayoutReturn
