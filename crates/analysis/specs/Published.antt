-- The times by the published equations: what is asked of a length, the response time with what it is to be late and to pass, the lowest task, and what the calls answer; and Demands, an inner device.
pub mod Equations
pub mod Response
pub mod Lowest
pub mod Answers
pub mod Demands
