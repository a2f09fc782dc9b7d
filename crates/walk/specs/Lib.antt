-- Definitions: what the box maximum reads; the coordinates of a box by class.
pub mod Walk
pub mod Classes
-- Definitions that only private contracts cite.
pub mod Counts
pub mod Tallied
-- Laws of sums, and of cells on one axis.
pub mod Sums
-- What the loops of the code rest on.
pub mod Gather
pub mod ByRoots
pub mod TalliedLaws
