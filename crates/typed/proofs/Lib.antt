-- Laws of the definitions in specs/, for this crate and the crates above.
pub mod Areas
pub mod Trees
pub mod Clauses
pub mod Sheet
pub mod Writing
pub mod Examples
