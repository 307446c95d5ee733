pub mod Places
pub mod Ucs2Laws
mod Worked
