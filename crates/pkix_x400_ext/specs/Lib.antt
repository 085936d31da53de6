pub mod Names
pub mod Deliveries
pub mod Networks
pub mod Lending
