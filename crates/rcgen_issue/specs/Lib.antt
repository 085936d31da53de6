pub mod Certified
pub mod CrlView
pub mod Entries
pub mod ListTable
pub mod Lists
pub mod SameIssuers
