-- What bytes are a sheet or a trace, and what they say, in the order of document 01.
pub mod Layout
pub mod Bytes
pub mod Node
pub mod Tree
pub mod Types
pub mod Reach
pub mod Clause
pub mod Refusal
pub mod Sheet
pub mod Written
pub mod Output
pub mod Emitted
pub mod Reached
