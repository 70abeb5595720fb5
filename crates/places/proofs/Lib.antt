-- Laws of a clause's task and of the walk over placements.
pub mod Loops
pub mod Tasks
pub mod Laying
pub mod Walks
