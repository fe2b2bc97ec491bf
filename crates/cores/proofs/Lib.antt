-- Laws that belong to no one function, lowest first.
pub mod Picking
pub mod Renumbering
pub mod Fewer
pub mod Trying
pub mod FittedSoFar
pub mod Answered
pub mod Refused
pub mod Told
pub mod Demands
pub mod OneCore
pub mod NoneMissed
pub mod Reported
pub mod Unique
