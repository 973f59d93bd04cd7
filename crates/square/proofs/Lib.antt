pub mod Path
pub mod Stage
pub mod Walk
