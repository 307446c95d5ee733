mod Windows
mod Groups
mod Worked
pub mod PackingLaws
