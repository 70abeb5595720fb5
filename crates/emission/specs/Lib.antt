-- What the functions that copy a sheet's nodes promise one another.
pub mod Copying
