-- What a reader of the crate's promises must believe, in the order of document 02, request 13; Tried is an inner device that no public promise cites.
pub mod Told
pub mod Renumbered
pub mod FirstFit
pub mod Tried
pub mod Answers
