-- Definitions that the public contracts cite, and the floor as an integer.
pub mod Zero
pub mod Fused
pub mod Coordinate
pub mod Saturated
pub mod Integer
pub mod Fields
pub mod Units
-- What the worked examples of proofs/Examples speak of.
pub mod Examples
