-- Laws of the node reader.
pub mod Levels
pub mod Targets
pub mod Runs
pub mod Children
pub mod Steps
pub mod Fits
pub mod Tables
pub mod Turns
pub mod Answers
