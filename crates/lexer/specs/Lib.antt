-- The lexer: its rows of spellings, and what it reads.
pub mod Rows
pub mod Lexed
