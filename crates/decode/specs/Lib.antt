pub mod Answers
pub mod Record
pub mod Inner
