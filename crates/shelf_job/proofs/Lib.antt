pub mod NamedRequests
pub mod Once
pub mod Refusals
pub mod Sealing
pub mod Subjects
pub mod Told
