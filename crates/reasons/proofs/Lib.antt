-- Laws that belong to no one function: the longer time, what the records bring, whose the largest backup is, the sum, the term that tips; then the theorems: the demands in the issue's words, that the call's contract leaves one answer, and rows by computation.
pub mod Longer
pub mod Placed
pub mod Owners
pub mod Sums
pub mod Tipped
pub mod Demands
pub mod Unique
pub mod Rows
