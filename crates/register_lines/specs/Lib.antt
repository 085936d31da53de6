pub mod Times
pub mod Lines
pub mod Index
pub mod Found
