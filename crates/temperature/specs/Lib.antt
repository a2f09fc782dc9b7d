pub mod Temperature
pub mod Answers
-- What is claimed of it.
pub mod ThroughLoad
-- Which functions do not see it.
pub mod Unseen
