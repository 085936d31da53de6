pub mod Inputs
pub mod Extensions
pub mod Reasons
pub mod Outcomes
pub mod ViewChecks
pub mod Answers
