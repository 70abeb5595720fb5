-- Sets of cycles as words.
pub mod Row
pub mod Symbols
pub mod Least
