-- What the readers of formulas promise one another.
pub mod Pieces
