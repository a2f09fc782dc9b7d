-- Definitions that the contracts of `decode` cite.
pub mod Spans
pub mod Nodes
pub mod Tree
pub mod Decode
pub mod Lent
-- What only laws and private contracts cite: that tables hold nodes of the bytes.
pub mod InTables
-- Laws: what an accepted decode passed, that its tables hold the nodes of the bytes, that its lookup is the walk, and what the mark decides.
pub mod Agreement
pub mod Passed
