pub mod Algorithms
pub mod Enrolment
