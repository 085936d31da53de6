pub mod Answers
pub mod Both
pub mod Explaining
pub mod NoFault
pub mod Outcome
pub mod Texts
