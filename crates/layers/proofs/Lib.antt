pub mod Queue
pub mod Depth
