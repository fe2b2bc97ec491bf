-- What a reader of the theorems must believe beside the definitions of analysis and replay: when fault priorities are the priorities, and what a tick of a log shows of a task.
pub mod Raised
pub mod Ticks
