-- What a reader of the crate's promise must believe, `Sorted`. `Order` says it a second time, and `Passes` what the inner functions do; no public promise cites them.
pub mod Sorted
pub mod Order
pub mod Passes
