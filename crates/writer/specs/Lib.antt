pub mod Encoding
pub mod Reading
pub mod Writing
