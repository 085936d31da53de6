pub mod Plain
pub mod Reserving
