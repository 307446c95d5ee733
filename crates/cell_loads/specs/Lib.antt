pub mod LoadsText
pub mod TableSteps
pub mod Laws
