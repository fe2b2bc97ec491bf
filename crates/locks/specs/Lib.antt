-- What a reader of the crate's promises must believe, in the order of request 9. `Broken` is a second reading of the refusals, and `Distances` is an inner device; no public promise cites them.
pub mod Bits
pub mod Jobs
pub mod Ceilings
pub mod Free
pub mod Rules
pub mod Answers
pub mod Broken
pub mod Distances
