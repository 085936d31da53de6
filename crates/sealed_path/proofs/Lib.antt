pub mod Keys
pub mod Sealing
mod Views
