-- Laws that belong to no one function.
pub mod Decimal
pub mod Putting
pub mod Signs
pub mod Pages
pub mod Fitting
pub mod Titles
pub mod Lines
pub mod Demands
pub mod Unique
