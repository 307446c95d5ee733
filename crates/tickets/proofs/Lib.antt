pub mod Totals
pub mod Steps
