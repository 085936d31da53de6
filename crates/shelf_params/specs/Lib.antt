pub mod Allowed
pub mod AllowedSubjects
pub mod AskedExtensions
pub mod AskedNames
pub mod AttributeCertificates
pub mod CommonNames
pub mod Parameters
pub mod Requests
