pub mod Cost
pub mod Fit
pub mod FitSteps
pub mod TextsOutput
pub mod TextsSteps
pub mod Laws
