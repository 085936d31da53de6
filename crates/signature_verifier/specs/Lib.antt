pub mod Keys
pub mod Schemes
pub mod Pairs
pub mod PublicKeys
pub mod Accepted
pub mod Signed
