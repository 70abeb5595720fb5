-- Laws of packed numbers, of rows put into lent ones, and of a board in lent cells.
pub mod Packing
pub mod Unpacking
pub mod Tabled
pub mod Cells
