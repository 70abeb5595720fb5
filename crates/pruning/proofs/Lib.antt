-- Laws of pruning.
pub mod Marking
pub mod Keeping
