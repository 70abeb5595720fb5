-- Laws of the definitions in specs/, for this crate and the crates above.
pub mod Rules
pub mod Made
pub mod Entries
pub mod Sorts
pub mod Tree
pub mod Reach
pub mod NameSets
pub mod Roles
pub mod Refusals
pub mod Accepted
pub mod Answer
pub mod Written
pub mod Emitted
pub mod Ways
pub mod Examples
