pub mod Check
pub mod CommandSpec
pub mod ReadViews
pub mod Scripts
pub mod Show
