pub mod Visit
pub mod Gather
pub mod Row
pub mod Several
