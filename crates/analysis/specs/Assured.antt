-- The assured times: what is asked of a length, the time with which choices are assured; and Ahead and Demand, inner devices.
pub mod Equation
pub mod Time
pub mod Ahead
pub mod Demand
