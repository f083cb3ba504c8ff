-- Places: lists of extents by their places, and the run of a state among the open ones. Tracks: the open runs go with the runs of `merged`. Bytes: a store into
-- the bytes of a list of extents. Fed: all of a list gives `merged`, its count and its bytes. Pieces: what the code has in hand of a piece.
-- Loops: the two passes. Answers: the answers of the call.
pub mod Places
pub mod Tracks
pub mod Bytes
pub mod Fed
pub mod Pieces
pub mod Loops
pub mod Answers
