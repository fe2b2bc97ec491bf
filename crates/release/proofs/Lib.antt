-- Laws that belong to no one function.
pub mod Said
pub mod Decided
pub mod Order
pub mod Demands
pub mod Unique
pub mod Rows
