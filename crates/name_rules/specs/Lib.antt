pub mod Controls
pub mod Hosts
pub mod Uris
