pub mod FaultSteps
pub mod ListLaws
pub mod Exits
