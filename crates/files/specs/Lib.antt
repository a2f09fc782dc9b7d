pub mod OfFile
-- The claim.
pub mod ThroughFile
