pub mod CommandLines
pub mod Lines
pub mod RequestViews
pub mod Requests
pub mod Words
