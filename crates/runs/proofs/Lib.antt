-- Laws that belong to no one function, lowest first.
pub mod Paced
pub mod Counting
pub mod Window
pub mod Along
pub mod Equation
pub mod Started
pub mod Demands
pub mod Rows
