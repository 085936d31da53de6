pub mod Primitives
pub mod Pkcs1
pub mod Pss
