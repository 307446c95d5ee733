pub mod Tables
pub mod Latin
pub mod AlphabetLaws
mod Worked
