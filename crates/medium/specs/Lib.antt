pub mod Medium
pub mod Record
pub mod Alike
