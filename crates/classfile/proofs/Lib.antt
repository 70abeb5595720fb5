-- Laws of the source file of the table.
pub mod Lines
