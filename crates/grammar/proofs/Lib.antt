-- Laws of the definitions in specs/: the reader reads what the grammar says, and nothing else.
pub mod Tests
pub mod Names
pub mod Said
pub mod Reading
pub mod Lexed
pub mod Room
pub mod Read
pub mod Bounds
pub mod Examples
pub mod Next
pub mod Sorted
