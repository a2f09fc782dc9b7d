pub mod Bytes
pub mod Coordinates
pub mod Record
pub mod Walk
pub mod Reads
pub mod FieldLaws
