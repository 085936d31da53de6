pub mod Halving
pub mod Firsts
pub mod Numbers
pub mod Places
