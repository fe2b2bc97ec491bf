-- What a reader of the crate's promises must believe, in the order of docs/FORMAT.md's section on text sheets; Putting is an inner device that no public promise cites.
pub mod Texts
pub mod Lines
pub mod Scaling
pub mod Unscaled
pub mod Answers
pub mod Shown
pub mod Named
pub mod Written
pub mod Putting
