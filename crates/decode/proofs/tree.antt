-- Laws of the tree reader.
pub mod Ways
pub mod Answers
