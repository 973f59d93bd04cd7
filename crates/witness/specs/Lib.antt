pub mod Figures
pub mod Search
