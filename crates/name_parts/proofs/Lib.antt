pub mod Reading
pub mod Found
pub mod Identifiers
pub mod Forms
