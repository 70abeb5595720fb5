-- Laws of the translation.
pub mod Translating
pub mod Quantified
pub mod Monitor
