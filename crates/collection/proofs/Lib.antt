pub mod Answered
pub mod Entries
pub mod Found
pub mod Order
pub mod Placed
