pub mod Questions
pub mod Certificates
pub mod ListIssuers
pub mod RevocationLists
pub mod Revocations
pub mod Asked
pub mod Verdicts
pub mod Laws
