-- The rows that are proved, beside those that the program runs.
pub mod Rows
