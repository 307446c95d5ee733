pub mod Places
pub mod Digits
pub mod Ranges
pub mod Rights
pub mod WholeInput
pub mod Books
pub mod PlannedBooks
