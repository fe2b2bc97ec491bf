-- Laws of the machine tick by tick: sets as binary digits, eight cells, the job that is struck, which job runs, what each phase leaves, the ready priorities, and the tasks that a good sheet starts with.
pub mod Binary
pub mod Eight
pub mod Struck
pub mod Columns
pub mod Chosen
pub mod Ordered
pub mod Ticked
pub mod Ready
pub mod Held
pub mod Started
