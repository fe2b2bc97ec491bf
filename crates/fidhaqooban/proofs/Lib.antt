-- Laws that belong to no one function.
pub mod Minus
pub mod Fields
pub mod Answered
pub mod Slacked
pub mod Timed
pub mod Replayed
pub mod Checked
pub mod Lent
pub mod Locked
pub mod Changed
pub mod Settled
pub mod SecondJob
pub mod Written
pub mod Chosen
pub mod Demands
pub mod Refused
pub mod Unique
