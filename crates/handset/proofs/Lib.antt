pub mod Lists
pub mod BlockLaws
pub mod PageLaws
pub mod NamedPages
pub mod ReadingLaws
pub mod WholePages
pub mod Repeats
pub mod TapeLaws
pub mod TapeExtents
pub mod Recordings
pub mod NextRecording
mod RecordingLaws
mod Worked
pub mod TapeKinds
pub mod TapeCases
pub mod TapeMade
pub mod Showing
pub mod OneMessage
