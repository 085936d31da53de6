pub mod Io
pub mod Memory
pub mod Run
pub mod Status
