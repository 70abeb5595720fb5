pub mod Refusals
pub mod Opened
pub mod Whole
pub mod Verdicts
pub mod Clauses
pub mod Checked
pub mod Bounds
