pub mod OrdersVerified
pub mod OrdersSteps
