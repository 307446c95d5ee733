pub mod Draws
pub mod Rule
