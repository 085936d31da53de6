pub mod Parts
pub mod Orders
pub mod Seeing
pub mod Unread
pub mod Viewing
pub mod SignedFields
pub mod Slices
pub mod ExtensionIds
