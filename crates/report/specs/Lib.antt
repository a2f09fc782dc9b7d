pub mod Report
pub mod ClassReport
pub mod Inner
pub mod Lines
pub mod Room
pub mod ClassRoom
