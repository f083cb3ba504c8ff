-- The laws of a commit's code. Chosen: what lies over a byte, by the three places. Edges: the next cut. Pieces: the pieces are the definition's sweep. Swept: the sweep's turns.
-- Spots: the tests of where the sweep stands. Answers: the answers of the call.
pub mod Chosen
pub mod Edges
pub mod Pieces
pub mod Spots
pub mod Swept
pub mod Turns
pub mod Answers
