pub mod AloneSteps
pub mod Checked
pub mod NotedSteps
pub mod ReplaySteps
