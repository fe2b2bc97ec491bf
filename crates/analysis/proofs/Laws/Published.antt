-- The published times: their equations as the code computes them, the response as the larger of two times, and what it does and does not depend on.
pub mod Larger
pub mod Cut
pub mod InOrder
pub mod Lateness
pub mod Reordered
pub mod Easier
pub mod Below
pub mod Lowest
pub mod Alone
pub mod EachTick
pub mod Halving
pub mod Columned
pub mod Stages
