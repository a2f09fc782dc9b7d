-- Definitions that the public contracts and the one claim cite.
pub mod Index
pub mod Cells
pub mod Axes
pub mod Found
pub mod Sides
pub mod Answers
pub mod Outcomes
