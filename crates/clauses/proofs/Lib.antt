-- Laws of names that are placed, of each type of clause, and of clauses that are joined.
pub mod Names
pub mod Broken
pub mod Joining
