-- A program's input, decimal digits and lines, and an output that may be a line.
pub mod Input
pub mod Lines
pub mod Output
