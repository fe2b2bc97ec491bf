-- Laws of logs and records: going over one, two parts of one, what its ticks mark, how far a record matches, refusals in order, jobs and counts over a log, what the calls answer, the bytes in pieces, and the one loop over whole ticks of them.
pub mod Going
pub mod Joined
pub mod Countdown
pub mod History
pub mod Matched
pub mod Order
pub mod Kept
pub mod Added
pub mod Answered
pub mod Stepped
pub mod Followed
pub mod Turned
pub mod Pieced
