pub mod Types
pub mod Octets
pub mod Following
pub mod Places
pub mod Joining
pub mod StreamLaws
