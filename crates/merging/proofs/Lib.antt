-- The laws of merging. Rules: rules 3 to 7 as a relation of two extents. Runs: one more extent among the runs. Shortest: no list of the same meaning is
-- shorter. Merging: Ticket 9's claim. Examples: small lists, computed.
pub mod Rules
pub mod Runs
pub mod Shortest
pub mod Merging
pub mod Examples
