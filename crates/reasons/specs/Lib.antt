-- What a reader must believe, in reading order: what is told, which equation decides, its terms, their sum, what the call answers; and Strikes, an inner device.
pub mod Told
pub mod Deciding
pub mod Terms
pub mod Adding
pub mod Answers
pub mod Strikes
