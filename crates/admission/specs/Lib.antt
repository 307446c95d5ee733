pub mod Laws
pub mod Load
pub mod Reservation
pub mod Table
pub mod TableSteps
pub mod Waiting
