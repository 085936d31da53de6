pub mod Causes
pub mod Ends
pub mod Own
pub mod Types
