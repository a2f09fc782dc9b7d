pub mod Filled
pub mod Words
pub mod WordLaws
