-- Laws of the header.
pub mod Faults
pub mod Media
