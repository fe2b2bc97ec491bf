-- Laws that belong to no one function: good tables; one job over the ticks; counting ticks; folds by "or"; the free time; refusals; the demands.
pub mod Given
pub mod Cycle
pub mod Ticks
pub mod Folded
pub mod Tied
pub mod Cases
pub mod Answered
pub mod Order
pub mod Rows
pub mod Rearranged
pub mod Demands
pub mod Unique
