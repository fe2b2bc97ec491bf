-- Laws that belong to no one function.
pub mod Answered
pub mod Replacing
pub mod Request
pub mod Demands
pub mod Rows
pub mod Refused
pub mod Unique
