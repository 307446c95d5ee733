pub mod OwnTapes
pub mod Shown
pub mod Recorded
pub mod OneList
pub mod Timed
