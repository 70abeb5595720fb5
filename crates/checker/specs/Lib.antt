pub mod Table
pub mod Check
pub mod Clauses
pub mod Small
