pub mod Member
pub mod Taking
pub mod Placing
