pub mod Joined
pub mod Bench
pub mod ContractLaws
pub mod Lists
pub mod MixTheorem
pub mod Points
pub mod Theorem
pub mod Cell
