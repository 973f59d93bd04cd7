pub mod Questions
pub mod Agreeing
