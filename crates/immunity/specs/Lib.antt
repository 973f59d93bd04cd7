pub mod Findings
pub mod ByMarks
