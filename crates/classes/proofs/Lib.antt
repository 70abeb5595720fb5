-- Laws of classes: by their definition, and of the bytes that stand for them.
pub mod Listed
pub mod Marks
