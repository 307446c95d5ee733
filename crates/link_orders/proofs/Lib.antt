pub mod Overhearing
pub mod Medians
mod Worked
