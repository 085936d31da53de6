pub mod Texts
pub mod Mapping
pub mod Preparing
pub mod Matching
pub mod Subtrees
pub mod Ranges
pub mod Sizes
