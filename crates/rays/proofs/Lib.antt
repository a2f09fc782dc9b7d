-- Signed numbers as code has them, the answers, and the loop of a trace.
pub mod Signs
pub mod Laws
pub mod Tracing
pub mod Examples
pub mod Nexts
pub mod OpenedLaws
pub mod Opening
pub mod Remaining
pub mod Runs
pub mod Theorems
pub mod Turns
