-- Laws of stored traces, for this crate and the crates above.
pub mod Accepted
pub mod Written
pub mod Columns
pub mod Answer
pub mod Examples
