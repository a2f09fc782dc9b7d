-- Definitions that the public contracts and the one claim cite.
pub mod Figures
pub mod Build
pub mod Maxima
pub mod Counted
-- Definitions of laws over what the public contracts say.
pub mod Zones
-- Definitions that only contracts within the crate cite.
pub mod Rows
pub mod Walks
pub mod NodeSums
pub mod Gathered
pub mod Rooting
pub mod RootsMet
pub mod RootStep
pub mod Gone
