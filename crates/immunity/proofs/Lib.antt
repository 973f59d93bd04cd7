pub mod Room
pub mod Marks
pub mod Columns
