-- Laws of texts that are put into bytes.
pub mod Copies
pub mod Texts
