pub mod Attributes
pub mod Certificates
pub mod Lists
pub mod Outcomes
pub mod PartSizes
pub mod Requests
pub mod Sizes
pub mod Times
