-- The laws that the formats of values and tables carry.
pub mod Addresses
pub mod LeastReasons
pub mod Tables
pub mod Values
