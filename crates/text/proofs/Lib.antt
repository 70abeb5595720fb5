-- Laws for the code that reads a typed sheet.
pub mod Parts
pub mod Clauses
pub mod Lines
pub mod Text
