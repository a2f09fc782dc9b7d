pub mod Digits
pub mod Examples
pub mod NumeralLaws
pub mod PageLaws
pub mod Printed
pub mod Writing
