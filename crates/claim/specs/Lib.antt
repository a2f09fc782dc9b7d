-- Definitions that the public contracts cite, and the claim.
pub mod Claim
pub mod Promises
pub mod Mixed
pub mod Load
pub mod Ask
pub mod Answered
pub mod Asked
-- Definitions that only contracts within the crate cite.
pub mod Inner
