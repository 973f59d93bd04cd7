pub mod Least
pub mod Made
pub mod Answers
pub mod Counted
pub mod Tables
