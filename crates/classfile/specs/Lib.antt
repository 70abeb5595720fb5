-- The source file of the table of classes.
pub mod File
