pub mod Asks
pub mod Authorities
pub mod Book
pub mod CommandView
pub mod Laws
pub mod Marks
