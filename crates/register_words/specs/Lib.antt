pub mod Json
pub mod Draw
pub mod Find
