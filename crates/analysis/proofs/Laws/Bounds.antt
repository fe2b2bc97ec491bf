-- The bounds: the largest backup that is borne, over the columns by rank too, and what it is to stay within them.
pub mod Borne
pub mod Reordered
pub mod Columned
pub mod ByRank
pub mod Passing
pub mod Assured
pub mod Weighing
pub mod Hopeless
pub mod Meeting
