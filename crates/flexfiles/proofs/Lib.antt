-- C's walks of a report. FirstError: the first device error from a cursor on. Handed: what a call hands out. Walk: what all of them hand out.
pub mod FirstError
pub mod Handed
pub mod Walk
