-- Laws that the proofs here and the crates above cite, from tests to the rows of each formula.
pub mod Bits
pub mod Rows
pub mod Masks
pub mod Joins
pub mod Shapes
pub mod Gaps
pub mod Counts
pub mod Cuts
pub mod Columns
pub mod Formulas
