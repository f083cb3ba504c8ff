pub mod Devices
pub mod Mirrors
pub mod Direction
pub mod Source
pub mod Totals
pub mod TotalsSteps
pub mod Blame
