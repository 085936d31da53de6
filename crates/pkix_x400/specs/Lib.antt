pub mod Standards
pub mod Addresses
pub mod Lending
