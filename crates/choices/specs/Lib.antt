-- What a reader of the crate's promises must believe, in the order of document 01; Stepping is an inner device that no public promise cites.
pub mod Choices
pub mod Order
pub mod Told
pub mod Answers
pub mod Stepping
