-- View: the view, and what it answers.
pub mod View
