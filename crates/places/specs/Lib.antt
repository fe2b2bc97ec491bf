-- What a reader of every promise must believe first: what is said over places, a search, refusals in order, and what a refused call answers.
pub mod Places
pub mod Search
pub mod Refusals
pub mod Answered
