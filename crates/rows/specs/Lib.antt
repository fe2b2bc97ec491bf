-- What the promises of the crate cite.
pub mod Lists
pub mod Answers
pub mod Tallies
pub mod Tables
