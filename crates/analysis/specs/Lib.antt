-- What a reader of the crate's promises must believe. This list, and within each family its own, is the table of contents in reading order: places and searches, what both rules share, the published
-- times of documents 01 and 02, the assured times, what the calls answer that are given a rule, an equation or a sheet's bytes, and the bounds that the walk and the list go by.
pub mod Told
pub mod Common
pub mod Published
pub mod Assured
pub mod ByRule
pub mod ByEquation
pub mod BySheet
pub mod Bounds
