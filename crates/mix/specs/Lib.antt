-- Definitions that the public contracts and the one claim cite.
pub mod Mix
pub mod Density
pub mod Bounded
-- Definitions that only contracts within the crate cite.
pub mod Inner
