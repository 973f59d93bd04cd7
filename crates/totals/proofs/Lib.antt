pub mod Walk
pub mod Costed
pub mod Way
