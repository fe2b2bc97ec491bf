-- The theorems, and rows by computation.
pub mod Demands
pub mod Rows
