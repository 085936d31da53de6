pub mod Columns
pub mod Given
pub mod Rows
pub mod Reading
pub mod Kept
