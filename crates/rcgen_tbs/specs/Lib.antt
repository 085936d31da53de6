pub mod Deltas
pub mod Frames
pub mod Messages
pub mod Named
pub mod StandIns
pub mod Subjects
