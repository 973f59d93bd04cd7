pub mod Sets
pub mod Midway
pub mod Searching
