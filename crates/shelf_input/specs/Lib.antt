pub mod Blocks
pub mod DerFiles
pub mod Files
pub mod Orders
pub mod Signatures
