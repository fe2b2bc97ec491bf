-- What a reader of the crate's promises must believe; Putting is an inner device that no public promise cites.
pub mod Words
pub mod Decimal
pub mod Texts
pub mod Pages
pub mod Putting
pub mod Titles
