pub mod Left
pub mod Heated
pub mod Windows
pub mod Rayed
pub mod Counting
pub mod Back
pub mod Flats
pub mod WindowRuns
