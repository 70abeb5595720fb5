-- Laws of the definitions in specs/, for this crate and the crates above.
pub mod Uses
pub mod Columns
pub mod Rows
pub mod Nodes
pub mod Meaning
pub mod Parts
pub mod Fills
pub mod Moves
