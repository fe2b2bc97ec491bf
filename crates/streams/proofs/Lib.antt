-- Laws that belong to no one function.
pub mod Dashes
pub mod Unique
