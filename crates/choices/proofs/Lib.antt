-- Laws that belong to no one function.
pub mod Whole
pub mod Carrying
pub mod Counted
pub mod Entries
pub mod Sifted
pub mod Allowed
pub mod Onward
pub mod Members
pub mod Ordered
pub mod Advancing
pub mod Listed
pub mod Hopeless
pub mod Unique
pub mod Demands
pub mod Bounded
pub mod Refused
