-- What a reader of the crate's promises must believe: `Ticks`, the machine tick by tick, which knows no log; then `Logs`, logs and records as bytes, whole and in pieces. Each file of the two says in which order to read on.
pub mod Ticks
pub mod Logs
