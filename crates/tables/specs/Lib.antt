-- Interval tables of a sheet's nodes in lent words.
pub mod Table
pub mod Ready
pub mod Step
