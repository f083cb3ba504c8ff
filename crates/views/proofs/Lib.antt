-- Views: what a view answers.
pub mod Views
