pub mod Countries
pub mod Numbers
