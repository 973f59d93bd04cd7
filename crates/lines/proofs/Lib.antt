pub mod Columns
pub mod Lengths
pub mod Shown
