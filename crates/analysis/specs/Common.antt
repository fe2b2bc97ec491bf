-- What both rules share: rounding up, what the equations read, the choices of fault priorities and what an answer says of a time; then Columns, Demand, ByRank, Jump and Lent, inner devices that no public promise cites.
pub mod Rounding
pub mod Tasks
pub mod Search
pub mod Supplier
pub mod Backups
pub mod Allowed
pub mod Entries
pub mod Columns
pub mod Demand
pub mod ByRank
pub mod Jump
pub mod Lent
