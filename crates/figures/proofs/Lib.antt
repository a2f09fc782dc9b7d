pub mod Tested
pub mod Examples
pub mod FigureLaws
pub mod Parts
