-- Laws that belong to no one function.
pub mod Complete
pub mod Noted
pub mod Rebuilt
pub mod Cut
pub mod Answered
pub mod Again
pub mod Applying
pub mod Exactly
pub mod Untouched
pub mod Demands
pub mod Unique
