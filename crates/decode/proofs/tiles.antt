-- Laws of the tile reader.
pub mod Fields
pub mod Roots
pub mod Turns
