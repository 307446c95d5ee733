pub mod Load
pub mod Room
pub mod History
pub mod Cell
mod Worked
