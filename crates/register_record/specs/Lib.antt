pub mod Records
pub mod Places
pub mod Following
pub mod Lists
pub mod Decisions
pub mod Laws
