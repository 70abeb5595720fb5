-- The board: what one call of it does, what a list of them does, and what lasts of a verdict meanwhile.
pub mod Board
pub mod Feeds
pub mod Lasting
