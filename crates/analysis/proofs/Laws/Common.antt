-- What both rules share: rounding up, the search, tests and choices place by place, and the tasks in columns by rank, over which the code computes.
pub mod Rounding
pub mod Climbing
pub mod Easier
pub mod Cut
pub mod Verdicts
pub mod Choice
pub mod Supplier
pub mod Reordered
pub mod Placing
pub mod Columned
pub mod Ranked
pub mod InOrder
pub mod Lent
pub mod Jumping
pub mod Taken
pub mod Started
