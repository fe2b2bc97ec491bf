-- What a reader of the crate's promises must believe, in the order of document 02, request 14.
pub mod Rules
pub mod Told
pub mod Answers
pub mod Broken
