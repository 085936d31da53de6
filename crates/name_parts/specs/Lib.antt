pub mod Octets
pub mod Arcs
pub mod Types
pub mod Values
pub mod Attributes
pub mod Parts
