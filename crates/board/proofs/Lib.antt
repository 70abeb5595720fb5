-- Laws of the board.
pub mod Opening
pub mod Admission
pub mod Feeds
pub mod Watched
pub mod Lasting
pub mod Answers
