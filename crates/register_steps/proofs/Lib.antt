pub mod Importing
pub mod SealedOnce
pub mod Trees
pub mod Entries
