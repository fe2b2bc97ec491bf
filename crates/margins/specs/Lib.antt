-- What a reader must believe: Changes, Margins, Answers; and Fitted, an inner device.
pub mod Changes
pub mod Margins
pub mod Answers
pub mod Fitted
