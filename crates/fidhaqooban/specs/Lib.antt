-- What a reader of the C interface's promises must believe.
pub mod Numbers
pub mod Answers
pub mod Locking
