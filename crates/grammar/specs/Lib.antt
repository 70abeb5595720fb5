-- Typed sheets (request 1): words, trees, how a tree is spelled, which texts are in the grammar, and how they are read; the classes of bytes
-- (request 2).
pub mod Token
pub mod Tree
pub mod Spelled
pub mod Class
pub mod Brackets
pub mod Small
pub mod Reader
