pub mod WholePage
pub mod Slots
pub mod Laws
