pub mod Lines
pub mod LineSteps
pub mod Words
pub mod Told
pub mod Checked
pub mod Laws
pub mod TableSteps
pub mod CheckSteps
