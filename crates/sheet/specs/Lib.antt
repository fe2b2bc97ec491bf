-- What a reader of the crate's promises must believe, in the order of document 01.
pub mod Packing
pub mod Layout
pub mod Told
pub mod Columns
pub mod Rules
pub mod Broken
pub mod Answers
