pub mod Assembled
pub mod Deltas
pub mod Frames
pub mod UnderNames
pub mod Once
pub mod Subjects
pub mod SubjectsOnce
