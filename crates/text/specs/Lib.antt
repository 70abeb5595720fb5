-- What the reader of typed sheets promises.
pub mod Parts
pub mod Text
