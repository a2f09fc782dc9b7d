-- The claim.
pub mod ThroughC
pub mod FileThroughC
pub mod RaysThroughC
pub mod TemperatureThroughC
pub mod MixThroughC
