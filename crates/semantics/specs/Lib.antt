-- What a reader must believe, in the order of document 01: each file restates one of its headings, `Lasting` request 7.
pub mod Cycles
pub mod Proposition
pub mod Formula
pub mod Placement
pub mod Clause
pub mod Verdict
pub mod Lasting
pub mod Reach
pub mod Inside
pub mod Translation
