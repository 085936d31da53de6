pub mod Deciding
pub mod InputLemmas
