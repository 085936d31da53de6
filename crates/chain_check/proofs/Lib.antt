pub mod Fronts
pub mod Orders
pub mod PlaceTests
pub mod Walks
pub mod Coming
