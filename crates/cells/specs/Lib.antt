-- What a reader of the crate's promises must believe, in the order of docs/FORMAT.md's section on text sheets; Raw says in other words what `split` promises.
pub mod Kinds
pub mod Cells
pub mod Numbers
pub mod Names
pub mod Raw
