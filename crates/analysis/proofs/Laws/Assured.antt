-- The assured times: their equation as the code computes it, and where they are the response times.
pub mod Reordered
pub mod InOrder
pub mod Lateness
pub mod ByRank
pub mod Raised
pub mod Asked
