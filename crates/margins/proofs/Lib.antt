-- Laws and theorems that belong to no one function: the last number that passes a test, a table that is eased, a change to an easier value, the change as the code makes it, the search; then the demands in the issue's words, worked values, and that each public call's contract leaves one answer.
pub mod Last
pub mod Tables
pub mod Kept
pub mod Fitting
pub mod Stepped
pub mod Demands
pub mod Rows
pub mod Unique
