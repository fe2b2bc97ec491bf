-- Laws that belong to no one function: `OfTicks`, of the machine tick by tick; `OfLogs`, of logs and records as bytes. Then what both serve: the zeros beside a refusal, rows worked through, that each call has one answer, and the demands of requests 1 and 7.
pub mod OfTicks
pub mod OfLogs
pub mod Zeros
pub mod Rows
pub mod Unique
pub mod Demands
pub mod Records
