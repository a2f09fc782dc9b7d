pub mod Answered
pub mod Examples
pub mod LoadLaws
pub mod Unseen
