pub mod Naming
pub mod Exchange
pub mod Rows
pub mod Text
pub mod Steps
pub mod Laws
