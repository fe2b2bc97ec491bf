-- Laws that belong to no one function.
pub mod Turned
pub mod Sound
pub mod Told
pub mod Early
pub mod Moved
pub mod Demands
pub mod Unique
pub mod Folds
