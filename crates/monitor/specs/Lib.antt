pub mod Format
pub mod Questions
pub mod Graph
pub mod Tables
