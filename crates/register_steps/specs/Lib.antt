pub mod Messages
pub mod SignedOctets
pub mod Sealing
pub mod Renewal
pub mod Names
pub mod Import
pub mod Listed
