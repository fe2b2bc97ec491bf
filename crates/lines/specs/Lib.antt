-- What a reader of the crate's promises must believe, in the order of docs/FORMAT.md's section on text sheets.
pub mod Troubles
pub mod Settings
pub mod Columns
pub mod Tasks
pub mod Lines
pub mod Answers
pub mod Told
pub mod Moved
