-- What a reader of the crate's promises must believe beside the assured equation of analysis, and the walk and the list of choices.
pub mod Told
pub mod Answers
pub mod Replaced
