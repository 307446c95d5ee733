pub mod Checked
pub mod Gathered
pub mod Places
pub mod StreamSteps
pub mod Streamed
pub mod Workers
