pub mod Numbers
pub mod Sets
pub mod Classify
