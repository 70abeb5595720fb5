-- What the functions that prune a draft promise one another.
pub mod Pruned
