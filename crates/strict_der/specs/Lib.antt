pub mod Contents
pub mod Offences
pub mod Strict
