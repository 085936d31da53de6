pub mod CommonNames
pub mod Later
pub mod Lists
pub mod RepeatedTypes
pub mod Repeating
pub mod Steps
pub mod VisibleNames
