pub mod Answering
pub mod Moving
pub mod Places
pub mod Listings
-- LAYOUTRETURN at a place of the record.
pub mod Returning
-- Tallying: a loop that counts files as it changes them.
pub mod Tallying
