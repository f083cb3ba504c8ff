-- LAYOUTRETURN: Request, Stateid, Seqid, Reply; Form and RequestSteps are a model of the code.
pub mod Stateid
pub mod Seqid
pub mod Request
pub mod Form
pub mod RequestSteps
pub mod Reply
