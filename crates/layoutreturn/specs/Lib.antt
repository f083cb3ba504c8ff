pub mod LayoutReturn
pub mod OneWalk
pub mod Answers
pub mod Settled
