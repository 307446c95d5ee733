pub mod Digits
pub mod Places
pub mod NumberBack
pub mod PageBack
pub mod FileLaws
pub mod RowBack
pub mod TextBack
pub mod ReadBack
mod Worked
