-- What the functions that write clauses promise one another.
pub mod Clauses
