-- What the programs print.
pub mod Line
pub mod Page
pub mod Formula
pub mod Sheet
pub mod Wall
