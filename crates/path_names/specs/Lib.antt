pub mod Preparation
pub mod NameMatching
pub mod Hosts
pub mod NameForms
pub mod Significant
pub mod Comparing
pub mod Sizes
