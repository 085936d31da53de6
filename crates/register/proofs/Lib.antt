pub mod Registers
pub mod Reopened
