-- C's walks of a report. Walk: what they hand out; Handed is a model of the code.
pub mod Handed
pub mod Walk
