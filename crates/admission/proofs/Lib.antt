pub mod Loads
pub mod Matched
pub mod Reservations
mod Rising
mod Scale
pub mod Tables
mod Worked
pub mod Unchanged
pub mod Passing
