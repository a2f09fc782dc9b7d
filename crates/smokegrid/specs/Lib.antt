-- Definitions that the contracts cite.
pub mod Flat
pub mod FlatClasses
pub mod FlatCounted
pub mod FlatHeat
pub mod FlatRay
pub mod FlatTables
pub mod FlatMix
pub mod Promises
