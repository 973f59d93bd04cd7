pub mod Stores
pub mod Splits
