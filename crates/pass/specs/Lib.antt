pub mod Pass
pub mod Begun
