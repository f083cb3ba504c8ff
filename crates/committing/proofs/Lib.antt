-- The laws of a commit. Places: lists by their places. Ranges: 22's test and sentence. Cuts, Sweep: what a sweep over the cuts says. Committing: Ticket 10's claim. Bare: 10034's test and
-- sentence. Seek, Next, Start: where a sweep stands, and the cuts to come. Examples: small lists, computed.
pub mod Places
pub mod Ranges
pub mod Cuts
pub mod Sweep
pub mod Committing
pub mod Bare
pub mod Seek
pub mod Next
pub mod Start
pub mod Examples
