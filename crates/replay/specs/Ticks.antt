-- The machine of request 1, in the order of its words: what a tick's two numbers say, the cells of the jobs, which job runs, the set of ready priorities, the four phases, what a tick adds to the counts, and the machine after it.
pub mod Tick
pub mod Cells
pub mod Columns
pub mod Runner
pub mod Ready
pub mod Step
pub mod Counts
pub mod Machines
