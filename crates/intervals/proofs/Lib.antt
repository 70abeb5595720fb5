-- Laws of the search and of the rows that it reads.
pub mod Outside
pub mod Places
pub mod Found
pub mod Searching
pub mod Gathered
