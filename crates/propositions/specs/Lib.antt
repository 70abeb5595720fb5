-- What the readers of tokens, propositions and formulas promise one another.
pub mod Nodes
pub mod Reads
pub mod Lexemes
pub mod Propositions
