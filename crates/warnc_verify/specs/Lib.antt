pub mod Verified
pub mod VerifySteps
pub mod Laws
