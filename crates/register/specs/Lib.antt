pub mod Registers
pub mod Errors
pub mod Opening
