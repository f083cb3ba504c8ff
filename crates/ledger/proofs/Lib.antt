pub mod Relation
mod Reported
mod OneFile
mod Stated
mod Calls
mod Totalled
mod Returns
pub mod Sentences
pub mod History
pub mod Others
mod OneCall
pub mod Counted
mod Fed
mod Within
mod Worse
pub mod RestartTwice
pub mod OnlyTotals
pub mod Unchanged
