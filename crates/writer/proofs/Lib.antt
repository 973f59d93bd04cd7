pub mod Numbers
pub mod Read
pub mod Encoded
pub mod Given
pub mod Puts
pub mod Asked
