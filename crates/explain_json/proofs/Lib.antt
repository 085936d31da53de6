pub mod JsonSteps
