pub mod Offences
pub mod Walking
