pub mod Asked
pub mod Issuers
pub mod Jobs
pub mod NamedRequests
pub mod Once
pub mod WeakKeys
