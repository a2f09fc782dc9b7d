pub mod Results
pub mod Faults
pub mod Numbers
pub mod TestLaws
pub mod ResultLaws
pub mod FaultLaws
