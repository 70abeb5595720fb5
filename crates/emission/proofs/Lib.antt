-- Laws of the emission, for this crate and the crates above.
pub mod SharedNodes
pub mod Drawings
pub mod Copies
pub mod Copied
