pub mod Laws
pub mod Blocks
pub mod Sent
pub mod Aired
pub mod Composed
pub mod Same
pub mod Meaning
mod Worked
