-- The laws by families: what both rules share, the published times, the assured times, what is judged by a rule, the equations one by one, a rule and the interval, tasks that are eased, what is asked of a sheet's bytes, what of one is refused, the bounds.
pub mod Common
pub mod Published
pub mod Assured
pub mod ByRule
pub mod ByEquation
pub mod Interval
pub mod Eased
pub mod BySheet
pub mod ReadJudged
pub mod Bounds
