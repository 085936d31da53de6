pub mod Cutting
pub mod Lines
pub mod Seconds
