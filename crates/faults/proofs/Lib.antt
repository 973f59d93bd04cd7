pub mod AtMostTwo
pub mod ByKind
pub mod Cheapest
pub mod Found
pub mod Numbered
pub mod Rest
pub mod Looks
