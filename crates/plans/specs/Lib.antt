-- The bound on an emitted formula's nodes, the state of the writing, and a formula as the plan of its nodes.
pub mod Bound
pub mod Emission
pub mod Plan
