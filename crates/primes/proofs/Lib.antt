pub mod Powers
pub mod Periods
pub mod Pigeons
pub mod Orders
pub mod Certificates
pub mod SmallPrimes
