pub mod Encoded
pub mod Keys
pub mod Parameters
pub mod Refusing
pub mod Signatures
