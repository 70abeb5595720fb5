-- Laws of what the programs print.
pub mod Shown
pub mod Answers
pub mod Outputs
