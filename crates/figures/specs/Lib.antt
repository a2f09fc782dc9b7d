-- Definitions that the public contracts cite.
pub mod Figures
