pub mod Pass
pub mod First
