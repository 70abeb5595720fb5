-- Laws behind the lexer.
pub mod Tokens
pub mod Digits
pub mod Rows
pub mod Classes
pub mod Deep
pub mod Read
