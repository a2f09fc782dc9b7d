-- Definitions that the public contracts cite.
pub mod Ray
pub mod Open
pub mod Run
pub mod Answers
pub mod Trace
-- Definitions that only contracts within the crate cite.
pub mod Held
pub mod Followed
