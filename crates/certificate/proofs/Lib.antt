pub mod Lowest
pub mod Agreeing
