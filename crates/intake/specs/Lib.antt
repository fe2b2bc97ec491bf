-- What the promises of intake say: of the sheet of an input.
pub mod Inputs
