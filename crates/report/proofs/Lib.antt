pub mod Fields
pub mod ClassRoom
pub mod Counting
pub mod Whole
pub mod ClassExamples
pub mod ClassTotal
pub mod Examples
