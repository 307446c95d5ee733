pub mod Answers
pub mod MarkSteps
pub mod Remarks
pub mod RemarksText
pub mod TableSteps
pub mod Remarked
pub mod RemarkedSteps
pub mod Laws
