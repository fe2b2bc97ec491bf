-- Laws that belong to no one function.
pub mod Places
pub mod Digits
pub mod Ends
pub mod Sayings
pub mod Unique
