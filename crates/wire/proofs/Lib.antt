-- LAYOUTRETURN. Requests, RequestModel: the request. Stateids, Seqids: its stateid. Replies: the reply. RequestExamples: computed examples.
pub mod Bytes
pub mod Requests
pub mod Stateids
pub mod Seqids
pub mod RequestModel
pub mod RequestExamples
pub mod Replies
