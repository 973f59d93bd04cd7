pub mod Marks
pub mod Opens
