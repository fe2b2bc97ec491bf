-- Logs (request 1) and a supplier's records (request 7) as bytes: the machine over a log, the refusals, what a record must show, what each call answers, the bytes in pieces. `Held` is an inner device; `Positions` and `Totals` are what theorems speak of; no public promise cites them.
pub mod Over
pub mod Rules
pub mod Shown
pub mod Answers
pub mod Pieces
pub mod Held
pub mod Positions
pub mod Totals
