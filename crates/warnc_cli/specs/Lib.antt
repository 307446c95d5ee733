pub mod CommandLine
pub mod Status
pub mod Tasks
pub mod Run
pub mod RunSteps
pub mod Mistaken
pub mod Ends
