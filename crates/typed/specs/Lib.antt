-- Typed sheets (request 1): what a tree says, and which bytes it is.
pub mod Meaning
pub mod Draft
