pub mod Policies
pub mod Levels
pub mod Growth
