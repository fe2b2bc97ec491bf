-- Laws about sorted keys, then those of a key that sinks; the promise in other words, that it leaves one answer, and rows.
pub mod Moved
pub mod Rising
pub mod Demands
pub mod Unique
pub mod Rows
