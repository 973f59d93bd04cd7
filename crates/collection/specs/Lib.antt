pub mod Contents
pub mod Placed
