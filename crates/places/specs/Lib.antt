-- A clause's task, and the walk over placements.
pub mod Task
pub mod Laid
