pub mod Field
pub mod Curve
pub mod Verification
pub mod Extended
pub mod Elements
