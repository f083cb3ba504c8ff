pub mod Changing
-- Counting: the counts as one file changes.
pub mod Counting
