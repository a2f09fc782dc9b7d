-- Laws of the reader of a whole grid.
pub mod Ways
pub mod Parts
pub mod Answers
pub mod Tested
