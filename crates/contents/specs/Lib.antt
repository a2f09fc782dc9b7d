pub mod Segments
pub mod Contents
pub mod Answers
-- What private contracts cite.
pub mod Inner
