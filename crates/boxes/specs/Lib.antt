-- Definitions that public contracts and the one claim cite.
pub mod Boxes
-- Definitions of laws: boxes cut in two, boxes inside boxes.
pub mod Cuts
-- Definitions that only private contracts cite.
pub mod Most
pub mod RangeMax
pub mod Columns
