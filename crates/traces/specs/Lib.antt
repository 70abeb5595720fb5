-- Stored traces, how cycles are stored as one, and the columns that they tell.
pub mod Trace
pub mod Written
pub mod Columns
