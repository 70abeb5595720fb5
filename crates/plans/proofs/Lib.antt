-- Laws of plans, for the crates above.
pub mod Steps
pub mod Nodes
pub mod Plans
