-- What the contracts of private functions cite: the layout of the work table, and the tables while they are filled. No public contract cites it.
pub mod Kinds
pub mod WorkTable
pub mod Packed
pub mod Stored
pub mod Filled
pub mod Rooted
pub mod TreeRead
pub mod GridRead
pub mod World
