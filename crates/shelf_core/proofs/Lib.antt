pub mod Both
pub mod Done
pub mod Judged
pub mod OneOutcome
pub mod Passing
pub mod ReadAlone
pub mod Sealing
