-- Definitions that the public contracts cite.
pub mod Cells
pub mod Record
-- Laws.
pub mod Counted
