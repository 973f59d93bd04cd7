pub mod Rows
pub mod Revoking
pub mod Head
pub mod Body
pub mod Marks
pub mod Accepted
