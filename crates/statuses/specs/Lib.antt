pub mod Names
pub mod Numbers
pub mod Rules
