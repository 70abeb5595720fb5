-- How a broken place is looked for: places by number, three tests on intervals, and the rows that have them.
pub mod Search
pub mod Places
pub mod Rows
pub mod Gather
