pub mod Domains
pub mod Readings
pub mod Following
