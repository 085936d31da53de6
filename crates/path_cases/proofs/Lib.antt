pub mod TenSteps
