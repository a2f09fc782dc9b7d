pub mod Numerals
pub mod Lengths
pub mod Page
pub mod Written
