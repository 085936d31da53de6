pub mod Anchors
pub mod Goods
pub mod Judging
pub mod Labels
pub mod Lists
pub mod Paths
pub mod Reading
pub mod Statuses
mod Pairs
