pub mod Attributes
pub mod Certificates
pub mod Constraints
pub mod Extensions
pub mod Keys
pub mod Names
pub mod RevocationLists
