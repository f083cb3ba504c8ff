-- Laws of the loops over the array of a record, for the list that the array holds; the proofs of crate capi cite them. What a loop does:
--     Each       each element changed
--     Tallied    each element changed, and counted into what is carried
--     Slid       each element moves down over the one before it
--     Drawn      the same of a part of the list, of which the last place is emptied
--     Listed     turns over the list, several times over, with two lists that are written
--     Moved      a part of the list moves down by one place, as `copy_within` does, and its last place is emptied
-- And beside them:
--     Headed     what is done where a call is accepted
--     Lists      a test that is known to hold
pub mod Drawn
pub mod Each
pub mod Headed
pub mod Listed
pub mod Lists
pub mod Moved
pub mod Slid
pub mod Tallied
