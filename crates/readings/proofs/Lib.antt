pub mod Traces
pub mod Following
