-- The laws of the readers of formulas.
pub mod Formulas
pub mod Pieces
