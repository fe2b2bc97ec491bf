-- What a reader of the crate's promises must believe, in the order of document 02, request 11.
pub mod Mended
pub mod Changes
pub mod Told
pub mod Answers
pub mod Applied
pub mod Order
pub mod Steps
