-- Laws that belong to no one function.
pub mod Turns
pub mod Refusals
pub mod Cut
pub mod Found
pub mod Words
pub mod Digits
pub mod Demands
pub mod Unique
