pub mod Predecessors
pub mod Closure
pub mod Steps
pub mod Rounds
pub mod Exactly
