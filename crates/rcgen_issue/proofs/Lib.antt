pub mod EntryTrees
pub mod Equality
pub mod ListExtensions
pub mod ListTableMet
pub mod Lists
pub mod ListsOnce
pub mod Loops
pub mod SelfSigned
