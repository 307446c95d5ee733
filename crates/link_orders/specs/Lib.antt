pub mod Clock
pub mod Overhearing
pub mod Calls
pub mod Orders
pub mod Steps
