pub mod Columns
pub mod Number
pub mod Fields
pub mod Page
pub mod Row
pub mod Ranges
pub mod File
pub mod Laws
