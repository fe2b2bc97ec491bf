-- What a reader of the theorems must believe beside the definitions of analysis: the tasks in longer ticks.
pub mod Scaled
