-- The laws of the readers of tokens and propositions; those of chains and of what is read piece by piece serve formulas too.
pub mod Chains
pub mod Leaves
pub mod Propositions
pub mod Steps
pub mod Went
