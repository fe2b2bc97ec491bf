-- What the promises of streams say: of inputs, and of words and how a command ends.
pub mod Inputs
pub mod Endings
