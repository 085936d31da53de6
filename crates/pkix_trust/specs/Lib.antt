pub mod Versions
pub mod Policies
pub mod Notices
pub mod Accesses
pub mod Anchors
