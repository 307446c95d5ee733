pub mod Composition
pub mod Meaning
pub mod Same
